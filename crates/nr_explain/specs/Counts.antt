-- How much a right trace has.
use Rattle.std.specs.Prelude.{◌≡◌, ◌+◌, length}
use Rattle.vs_types.specs.Space.{pages}
use Rattle.nr_trace.specs.Recording.{Recording}
use Rattle.nr_trace.specs.Orders.{recorded_order, space_after}
use Rattle.nr_audit.specs.Meetings.{overlapping}
use Rattle.nr_explain.specs.declared.trace.counts.Counts.{Counts}

-- the calls of the recorded order, the updates among them, which are the log, and the others, which are reads. Then the replicas,
-- the pages of the space after the whole log, and the answered updates and reads that overlap another one
pub record IsCountOf (trace : Recording) (counts : Counts) : Type 0 where
  pub calls : counts.calls ≡ length (recorded_order trace)
  pub updates : counts.updates ≡ length trace.log
  pub reads : counts.updates + counts.reads ≡ counts.calls
  pub replicas : counts.replicas ≡ trace.layout.replicas
  pub pages : counts.pages ≡ length (pages (space_after trace trace.log))
  pub overlapping : counts.overlapping ≡ overlapping trace
