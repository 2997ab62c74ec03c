use Rattle.nr_touch.proofs.cuts.Thinned.{IsThinnedTo}
use Rattle.nr_touch.proofs.touches.tail.thinned.Given as goal

abbrev pub invariant-loop-place : goal.invariant-loop-place
invariant-loop-place l = IsThinnedTo l.changes l.kept.items l.numbers l.are_first l.place
