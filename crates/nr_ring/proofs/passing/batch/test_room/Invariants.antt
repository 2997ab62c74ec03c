use Rattle.std.proofs.Common.{ℕ, ◌+◌, ◌<◌, ◌≤◌}
use Rattle.std.specs.Prelude.{slice_index}
use Rattle.nr_ring.proofs.passing.batch.test_room.Given as goal

abbrev pub invariant-loop-replica : goal.invariant-loop-replica
invariant-loop-replica l = (r : ℕ) → r < l.replica → slice_index l.fn.head 0 + l.fn.count ≤ slice_index l.fn.head (2 + r) + 16
