use Rattle.std.proofs.Common.{arith}
use Rattle.std.proofs.lemmas.Bool.Decides.{not_from_Decides, Decides-like}
use Rattle.nr_touch.proofs.Lagging.{lagging_within, within_lagging}
use Rattle.nr_touch.proofs.Tests.{no}
use Rattle.nr_touch.proofs.Walked.{last_within}
use Rattle.nr_touch.proofs.touches.stale.is_of_lagging.Goals as goal

pub returns-then-not-is_fault_of_none : goal.returns-then-not-is_fault_of_none
returns-then-not-is_fault_of_none c = λ b. no (λ it. not_from_Decides _ c.is_fault_of_none.ensures c.if-not-is_fault_of_none.true it.0)

pub returns-then-most-known : goal.returns-then-most-known
returns-then-most-known c = λ b. no (λ it.
    let (low, within) = within_lagging b c.args.touch.now c.last_allowed-last.result c.last_allowed-last.ensures it in
    omega (arith, low, c.if-most-known.true, c.from-most.ensures))

pub returns : goal.returns
returns c = λ b.
    let touch = c.args.touch.now in
    let last = c.last_allowed-last.result in
    let ahead = c.last_allowed-last.ensures in
    Decides-like _ (lagging_within b touch last ahead (c.is_fault_of_none.ensures.0 c.if-not-is_fault_of_none.false))
    (λ it. (within_lagging b touch last ahead it).1) (c.is_answered_within.ensures b (omega (arith, c.if-most-known.false, c.from-most.ensures))
    (last_within b touch last ahead))
