use Rattle.std.proofs.Common.{◌≡◌}
use Rattle.nr_touch.proofs.touches.tail.is_far.Given as goal

abbrev pub invariant-loop : goal.invariant-loop
invariant-loop l = l.iterator' ≡ l.initial.iterator'
