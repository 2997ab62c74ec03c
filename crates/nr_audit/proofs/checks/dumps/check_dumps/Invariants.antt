use Rattle.std.proofs.Common.{ℕ, ◌+◌, ◌<◌, length}
use Rattle.vs_types.specs.Space.{Space}
use Rattle.nr_audit.specs.inside.Dumps.{AreFound}
use Rattle.nr_audit.specs.inside.Search.{HasNoneFrom}
use Rattle.nr_audit.specs.inside.Passes.{IsDumpFaultAt}
use Rattle.nr_audit.proofs.checks.dumps.check_dumps.Given as goal

abbrev pub invariant-loop-replica : goal.invariant-loop-replica
invariant-loop-replica l = (start : Space) → AreFound start l.trace (length l.trace.log + 1) l.faults → (lower : ℕ) → lower < l.replica
    → HasNoneFrom start (IsDumpFaultAt lower) l.trace
