use Rattle.std.proofs.Common.{length, ap, arith}
use Rattle.std.proofs.lemmas.List.Elements.{Contains-get_or}
use Rattle.nr_touch.proofs.StaysFound.{all_stays, no_stays, one_stay_more}
use Rattle.nr_touch.proofs.releases.stays.listed.Goals as goal

pub loop-each-init : goal.loop-each-init
loop-each-init c = record {
  stays = no_stays c.args.history.now.changes.items c.args.seen.now c.new-stays.result.items;
  roomy = λ stay has. let less = has.1 in absurd (omega (arith, less, ap length c.new-stays.ensures.items));
}

pub loop-each-preserved : goal.loop-each-preserved
loop-each-preserved c =
    let test = c.loop-each-test.true in
    record {
      stays = one_stay_more c.args.history.now.changes.items c.args.seen.now c.loop-each.stays.items c.put.new.stays.items c.loop-each.each-index _
          c.span-from.result.0 c.span-from.result.1 test c.span-from.ensures c.in_ok-put.ensures.kept c.loop-each.invariant.stays;
      roomy = c.in_ok-put.ensures.roomy c.loop-each.invariant.roomy (c.requires.roomy _ (Contains-get_or c.args.seen.now c.loop-each.each-index _ test));
    }

pub returns-clause-stays : goal.returns-clause-stays
returns-clause-stays c =
    all_stays c.args.history.now.changes.items c.args.seen.now c.loop-each.stays.items c.loop-each.each-index (omega (arith, c.loop-each-test.false))
    c.loop-each.invariant.stays

pub returns-clause-roomy : goal.returns-clause-roomy
returns-clause-roomy c = c.loop-each.invariant.roomy
