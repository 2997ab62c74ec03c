use Rattle.std.proofs.Common.{◌≡◌, take}
use Rattle.nr_ring.proofs.passing.batch.pack_all.Given as goal

abbrev pub invariant-loop-place : goal.invariant-loop-place
invariant-loop-place l = take l.place l.packed ≡ take l.place l.batch
