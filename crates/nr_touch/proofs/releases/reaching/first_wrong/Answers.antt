use Rattle.std.proofs.Common.{arith}
use Rattle.std.proofs.lemmas.List.Elements.{Contains-get_or}
use Rattle.nr_touch.proofs.FirstWrong.{none_wrong, right_to, wrong_at}
use Rattle.nr_touch.proofs.releases.reaching.first_wrong.Goals as goal

pub loop-index-init : goal.loop-index-init
loop-index-init c = record {
  none = λ b quiet all index release low at wrong. omega (arith, low);
  known = λ b key over at. absurd (c.none-overs.ensures key over at);
  listed = λ b all. all;
}

pub is_wrong-requires-clause-memory : goal.is_wrong-requires-clause-memory
is_wrong-requires-clause-memory c = c.requires.memory _ (Contains-get_or c.args.releases.now c.loop-index.index _ c.loop-index-test.true)

pub returns-then-wrong-clause-finds : goal.returns-then-wrong-clause-finds
returns-then-wrong-clause-finds c = λ b quiet all.
    let inv = c.loop-index.invariant in
    let listed = c.gone_at-gone.ensures _ b c.args.reach.now.lingering c.args.gone all (inv.listed b all) in
    wrong_at b.before b.start b.segment c.args.releases.now c.loop-index.index _ c.in_ok-wrong.wrong c.loop-index-test.true
    (c.in_ok-wrong.ensures.wrong b quiet (inv.known b) listed) (inv.none b quiet all) c.if-wrong.true

pub returns-then-wrong-clause-listed : goal.returns-then-wrong-clause-listed
returns-then-wrong-clause-listed c = λ b all. (
  _,
  c.in_ok-wrong.ensures.listed b (c.gone_at-gone.ensures _ b c.args.reach.now.lingering c.args.gone all (c.loop-index.invariant.listed b all)),
)

pub loop-index-preserved : goal.loop-index-preserved
loop-index-preserved c =
    let inv = c.loop-index.invariant in
    record {
      none = λ b quiet all.
          let listed = c.gone_at-gone.ensures _ b c.args.reach.now.lingering c.args.gone all (inv.listed b all) in
          right_to b.before b.start b.segment c.args.releases.now c.loop-index.index _ c.in_ok-wrong.wrong c.loop-index-test.true
          (c.in_ok-wrong.ensures.wrong b quiet (inv.known b) listed) (inv.none b quiet all) c.if-wrong.false;
      known = λ b. c.in_ok-wrong.ensures.known b (inv.known b);
      listed = λ b all. c.in_ok-wrong.ensures.listed b (c.gone_at-gone.ensures _ b c.args.reach.now.lingering c.args.gone all (inv.listed b all));
    }

pub returns-clause-finds : goal.returns-clause-finds
returns-clause-finds c = λ b quiet all. none_wrong b.before b.start b.segment c.args.releases.now c.loop-index.index (omega (arith, c.loop-index-test.false))
    (c.loop-index.invariant.none b quiet all)

pub returns-clause-listed : goal.returns-clause-listed
returns-clause-listed c = λ b all. (c.loop-index.last, c.loop-index.invariant.listed b all)
