use Rattle.std.proofs.Common.{◌≡◌, ℕ, ◌+◌, ◌<◌, get_or, length}
use Rattle.std.specs.Prelude.{slice_index}
use Rattle.nr_ring.proofs.cells.code.locals_in.Given as goal

abbrev pub invariant-loop-replica : goal.invariant-loop-replica
invariant-loop-replica l = (length l.locals ≡ 4) × ((r : ℕ) → r < l.replica → get_or l.locals r 0 ≡ slice_index l.fn.head (2 + r))
