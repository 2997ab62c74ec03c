use Rattle.std.proofs.Common.{◌≡◌, take}
use Rattle.std.specs.FinMap as finite
use Rattle.nr_order.proofs.copies.copy.Given as goal

abbrev pub invariant-loop-index : goal.invariant-loop-index
invariant-loop-index l =
    (l.copy.applied ≡ l.dump.applied) × (l.copy.root ≡ l.dump.root) × (finite.entries l.copy.frames ≡ take l.index (finite.entries l.dump.frames))
