use Rattle.std.proofs.Common.{◌≡◌}
use Rattle.nr_ring.specs.inside.Codes.{most_in}
use Rattle.nr_ring.proofs.cells.code.most_in.Given as goal

abbrev pub invariant-loop-replica : goal.invariant-loop-replica
invariant-loop-replica l = l.most ≡ most_in l.fn.code l.replica
