use Rattle.std.proofs.Common.{◌≡◌, ◌≤◌, drop, reverse}
use Rattle.nr_ring.specs.LogHistory.{log_after}
use Rattle.nr_ring.specs.Words.{ring_before}
use Rattle.nr_ring.proofs.ring.ring_log.RingLog.read.Given as goal

abbrev pub invariant-loop-place : goal.invariant-loop-place
invariant-loop-place g l =
    record {
      high : l.from ≤ l.place;
      same : l.pass ≡ l.initial.pass;
      ring : l.ring ≡ ring_before l.initial.pass.value.rings l.place;
      entries : l.entries.items ≡ reverse (drop l.place (log_after g.J.LogName.replicas l.initial.pass.view.seen).entries);
    }
