use Rattle.std.proofs.Common.{arith}
use Rattle.std.proofs.lemmas.Bool.Decides.{Decides-like}
use Rattle.nr_touch.proofs.Excused.{up_to_date}
use Rattle.nr_touch.proofs.Tests.{no}
use Rattle.nr_touch.proofs.Walked.{last_within}
use Rattle.nr_touch.proofs.touches.excuse.is_up_to_date.Goals as goal

pub returns-then-last-first : goal.returns-then-last-first
returns-then-last-first c = λ b. no (λ (n, is, answered).
    let (low, high) = (up_to_date b c.args.touch.now c.last_allowed-last.result
    c.last_allowed-last.ensures c.first_allowed-first.result c.first_allowed-first.ensures.in_range c.first_allowed-first.ensures.past n).0 is in
    omega (arith, low, high, c.if-last-first.true))

pub returns : goal.returns
returns c = λ b.
    let touch = c.args.touch.now in
    let last = c.last_allowed-last.result in
    let ahead = c.last_allowed-last.ensures in
    let are_such = up_to_date b touch last ahead c.first_allowed-first.result c.first_allowed-first.ensures.in_range c.first_allowed-first.ensures.past in
    Decides-like _ (λ (n, low, high, answered). (n, (are_such n).1 (low, high), answered))
    (λ (n, is, answered). let (low, high) = (are_such n).0 is in (n, low, high, answered))
    (c.is_answered_within.ensures b (omega (arith, c.if-last-first.false)) (last_within b touch last ahead))
