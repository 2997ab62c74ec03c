use Rattle.std.proofs.Common.{◌≡◌, ℕ, ◌<◌, ◌≤◌, take, get_or}
use Rattle.nr_trace.specs.Orders.{recorded_order, space_from}
use Rattle.nr_trace.specs.Faults.{IsWrongFrom}
use Rattle.nr_audit.specs.Verdict.{space_of}
use Rattle.nr_audit.specs.inside.Dumps.{HasReached}
use Rattle.nr_audit.proofs.checks.answers.serve_calls.Given as goal

abbrev pub invariant-loop-member : goal.invariant-loop-member
invariant-loop-member l = record {
  put : (k : ℕ) → k < l.member-index → get_or l.members k 0 ≡ get_or (recorded_order l.trace) k 0;
  left : (k : ℕ) → l.member-index ≤ k → get_or l.members k 0 ≡ get_or l.fn.members k 0;
  space : l.space ≡ space_of l.trace.layout (space_from l.fn.start.space l.trace (take l.member-index (recorded_order l.trace)));
  reached : HasReached l.fn.start.space l.trace l.member-index l.place l.faults;
  right : (j : ℕ) → j < l.member-index → IsWrongFrom l.fn.start.space l.trace (get_or (recorded_order l.trace) j 0) → ⊥;
}
