use Rattle.std.proofs.Common.{ℕ, ◌+◌, Option, sym, subst, arith}
use Rattle.std.proofs.lemmas.List.Elements.{Contains-get_or}
use Rattle.nr_touch.proofs.Addresses.{found_of_all, lower_reached, none_more, FindsBelow}
use Rattle.nr_touch.proofs.releases.reaching.least_address.Goals as goal
use Rattle.nr_touch.proofs.releases.reaching.least_address.Goals.{in-Some, in-None}

pub loop-each-init : goal.loop-each-init
loop-each-init c = λ b k s less at leads. omega (arith, less)

pub frame_there-requires-clause-page : goal.frame_there-requires-clause-page
frame_there-requires-clause-page c = c.requires.roomy _ (Contains-get_or c.args.seen.now c.loop-each.each-index _ c.loop-each-test.true)

pub frame_address-address-requires-clause-page : goal.frame_address-address-requires-clause-page
frame_address-address-requires-clause-page c =
    c.requires.roomy _ (Contains-get_or c.args.seen.now c.loop-each.each-index _ c.loop-each-test.true)

pub loop-each-preserved : goal.loop-each-preserved
loop-each-preserved c = λ b.
    let release = c.args.release.now in
    let seen = c.args.seen.now in
    let index = c.loop-each.each-index in
    let old = c.loop-each.invariant b in
    elim c.match-frame_there.branch [
      | in-Some w ↦ subst (λ (o : Option ℕ). FindsBelow b release seen (index + 1) o) (sym w.least-is)
          (lower_reached b release seen index _ c.loop-each-test.true c.loop-each.least w.in-Some.frame w.frame_address-address.result
          w.lower.result w.frame_address-address.ensures (w.in-Some.ensures.finds b) old w.lower.ensures)
      | in-None w ↦ subst (λ (o : Option ℕ). FindsBelow b release seen (index + 1) o) (sym w.least-is)
          (none_more b release seen index _ c.loop-each-test.true c.loop-each.least (w.in-None.ensures.finds b) old)
    ]

pub returns : goal.returns
returns c = λ b. found_of_all b c.args.release.now c.args.seen.now c.loop-each.each-index c.loop-each.least (omega (arith, c.loop-each-test.false))
    (c.loop-each.invariant b)
