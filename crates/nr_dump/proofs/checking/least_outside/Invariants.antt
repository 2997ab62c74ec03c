use Rattle.std.proofs.Common.{ℕ, ◌<◌, Contains}
use Rattle.std.specs.Prelude.{slice_index}
use Rattle.std.specs.FinMap as finite
use Rattle.nr_dump.proofs.checking.least_outside.Given as goal

abbrev pub invariant-loop-k : goal.invariant-loop-k
invariant-loop-k l = (j : ℕ) → j < l.k → Contains l.numbers (slice_index (finite.keys l.dump.frames) j)
