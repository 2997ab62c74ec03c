use Rattle.nr_touch.proofs.cuts.Placed.{ArePlacedTo}
use Rattle.nr_touch.proofs.touches.tail.placed.Given as goal

abbrev pub invariant-loop-index : goal.invariant-loop-index
invariant-loop-index l = ArePlacedTo l.start l.changes l.placed.items l.index
