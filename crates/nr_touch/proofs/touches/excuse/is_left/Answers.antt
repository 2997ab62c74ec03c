use Rattle.std.proofs.Common.{arith}
use Rattle.std.proofs.lemmas.Bool.Decides.{Decides-like}
use Rattle.nr_touch.specs.inside.Levels.{left_in}
use Rattle.nr_touch.proofs.Tests.{no}
use Rattle.nr_touch.proofs.cuts.Tails.{of_left}
use Rattle.nr_touch.proofs.touches.excuse.is_left.Goals as goal

pub returns-then-first_allowed-gt0 : goal.returns-then-first_allowed-gt0
returns-then-first_allowed-gt0 c = λ b. no (λ left.
    let none = ((of_left c.args.touch.now c.finds_page.result c.finds_page.ensures b.start b.segment c.args.joined.now.history.changes.items
    (left_in c.args.joined.now.earlier.items) b.own c.first_allowed.ensures.in_range c.first_allowed.result c.first_allowed.ensures.past).1 left).0 in
    omega (arith, none, c.if-first_allowed-gt0.true))

pub is_of_earlier-requires : goal.is_of_earlier-requires
is_of_earlier-requires c = rw c.deref.ensures.value c.requires.earlier

pub returns : goal.returns
returns c = λ b.
    let of_it = of_left c.args.touch.now c.finds_page.result c.finds_page.ensures b.start b.segment c.args.joined.now.history.changes.items
    (left_in c.args.joined.now.earlier.items) b.own c.first_allowed.ensures.in_range c.first_allowed.result c.first_allowed.ensures.past in
    Decides-like _ (λ so. of_it.0 (omega (arith, c.if-first_allowed-gt0.false), so)) (λ left. (of_it.1 left).1)
    (rw c.deref.ensures.value at c.is_of_earlier.ensures)
