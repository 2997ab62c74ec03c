use Rattle.std.proofs.Common.{◌≡◌, take}
use Rattle.nr_ring.proofs.passing.batch.unpack_all.Given as goal

abbrev pub invariant-loop-entry : goal.invariant-loop-entry
invariant-loop-entry l = l.entries.items ≡ take l.entry-index l.packed
