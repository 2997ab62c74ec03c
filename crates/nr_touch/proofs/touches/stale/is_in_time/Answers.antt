use Rattle.std.proofs.Common.{arith}
use Rattle.std.proofs.lemmas.Bool.Decides.{Decides-like}
use Rattle.nr_touch.proofs.Tests.{no}
use Rattle.nr_touch.proofs.Walked.{in_time, last_within}
use Rattle.nr_touch.proofs.touches.stale.is_in_time.Goals as goal

pub returns-then-last-first : goal.returns-then-last-first
returns-then-last-first c = λ b. no (λ it.
    let (n, low, high, answered) = (in_time b c.args.touch.now c.last_allowed-last.result
    c.last_allowed-last.ensures c.first_allowed-first.result c.finds_page.result c.finds_page.ensures c.first_allowed-first.ensures.in_range
    c.first_allowed-first.ensures.past).0 it in
    omega (arith, low, high, c.if-last-first.true))

pub returns : goal.returns
returns c = λ b.
    let (there, back) = in_time b c.args.touch.now c.last_allowed-last.result
    c.last_allowed-last.ensures c.first_allowed-first.result c.finds_page.result c.finds_page.ensures c.first_allowed-first.ensures.in_range
    c.first_allowed-first.ensures.past in
    Decides-like _ back there (c.is_answered_within.ensures b (omega (arith, c.if-last-first.false))
    (last_within b c.args.touch.now c.last_allowed-last.result c.last_allowed-last.ensures))
