use Rattle.std.proofs.Common.{◌≤◌}
use Rattle.nr_audit.specs.inside.Meetings.{IsCountedTo, IsReachOf}
use Rattle.nr_audit.proofs.histories.meetings.overlapping.Given as goal

abbrev pub invariant-loop-call : goal.invariant-loop-call
invariant-loop-call l = record {
  reach : IsReachOf l.trace l.replies.items l.call l.end;
  counted : IsCountedTo l.trace l.replies.items l.call l.last l.count;
  few : l.count ≤ l.call;
}
