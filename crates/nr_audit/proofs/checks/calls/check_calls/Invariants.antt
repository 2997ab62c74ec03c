use Rattle.std.proofs.Common.{ℕ, ◌<◌}
use Rattle.nr_audit.specs.inside.LastCalls.{last_of, HasRows}
use Rattle.nr_audit.specs.inside.Search.{HasNone}
use Rattle.nr_audit.specs.inside.Passes.{IsCallFaultAt}
use Rattle.nr_audit.proofs.CallFaults.{HasFound}
use Rattle.nr_audit.proofs.checks.calls.check_calls.Given as goal

abbrev pub invariant-loop-index : goal.invariant-loop-index
invariant-loop-index l = record {
  known : HasFound l.trace l.index (last_of l.last) l.replies.items;
  rows : HasRows l.trace.layout.threads l.last;
  none : (lower : ℕ) → lower < l.index → HasNone (IsCallFaultAt lower) l.trace;
}
