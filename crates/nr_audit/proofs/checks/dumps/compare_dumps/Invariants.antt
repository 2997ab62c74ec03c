use Rattle.nr_audit.specs.inside.Dumps.{AreCompared}
use Rattle.nr_audit.proofs.checks.dumps.compare_dumps.Given as goal

abbrev pub invariant-loop-replica : goal.invariant-loop-replica
invariant-loop-replica l = AreCompared l.trace l.space l.applied l.replica l.fn.faults l.faults
