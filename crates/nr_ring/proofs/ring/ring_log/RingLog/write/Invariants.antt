use Rattle.std.proofs.Common.{◌≡◌, ◌+◌, true}
use Rattle.nr_ring.specs.LogHistory.{log_after, tail}
use Rattle.nr_ring.specs.Words.{last_ring, link}
use Rattle.nr_ring.specs.inside.Batch.{IsWritten}
use Rattle.nr_ring.proofs.ring.ring_log.RingLog.write.Given as goal

abbrev pub invariant-loop-entry : goal.invariant-loop-entry
invariant-loop-entry g l =
    record {
      cell : l.pass.cell ≡ l.initial.pass.cell;
      number : l.pass.number ≡ l.initial.pass.number;
      view : l.pass.view ≡ l.initial.pass.view;
      value : l.pass.value ≡ l.initial.pass.value;
      fresh : l.pass.fresh ≡ true;
      from : l.pass.from ≡ l.initial.pass.from;
      place : l.place ≡ tail (log_after g.J.LogName.replicas l.initial.pass.view.seen) + l.entry-index;
      before : l.before ≡ link (last_ring l.initial.pass.value) l.fn.ring l.entry-index;
      written : IsWritten l.fn.ring (last_ring l.initial.pass.value) (tail (log_after g.J.LogName.replicas l.initial.pass.view.seen))
          l.entry-index l.fn.batch l.pass.own;
    }
