use Rattle.std.proofs.Common.{◌≡◌, ◌≤◌}
use Rattle.std.specs.Prelude.{count_by}
use Rattle.vs_types.specs.Space.{Space}
use Rattle.nr_trace.specs.Laws.{HasCleanLog}
use Rattle.nr_trace.specs.Orders.{below}
use Rattle.nr_touch.specs.Beside.{is_beside}
use Rattle.nr_touch.specs.inside.Changes.{AreChanges}
use Rattle.nr_touch.proofs.touches.beside.count_beside.Given as goal

abbrev pub invariant-loop-call : goal.invariant-loop-call
invariant-loop-call l = record {
  counted : (start : Space) → HasCleanLog l.segment → AreChanges start l.segment l.changes → l.count ≡ count_by (is_beside start l.segment) (below l.call);
  few : l.count ≤ l.call;
}
