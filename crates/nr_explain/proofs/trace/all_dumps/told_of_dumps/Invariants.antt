use Rattle.nr_explain.proofs.DumpsTold.{AreToldBelow}
use Rattle.nr_explain.proofs.trace.all_dumps.told_of_dumps.Given as goal

-- the replicas so far
abbrev pub invariant-loop-replica : goal.invariant-loop-replica
invariant-loop-replica l = AreToldBelow l.trace l.own l.replica l.dumps.items
