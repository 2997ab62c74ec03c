use Rattle.std.proofs.Common.{◌≡◌, ℕ, ◌<◌, ◌≤◌, get_or}
use Rattle.nr_audit.specs.inside.LastEvents.{IsLastEvent}
use Rattle.nr_audit.proofs.histories.last_events.put_last_events.Given as goal

abbrev pub invariant-loop-member : goal.invariant-loop-member
invariant-loop-member l = record {
  put : (k : ℕ) → k < l.member-index → IsLastEvent l.history (get_or l.fn.calls.items k 0) (get_or l.member-items k 0);
  left : (k : ℕ) → l.member-index ≤ k → get_or l.member-items k 0 ≡ get_or l.fn.calls.items k 0;
}
