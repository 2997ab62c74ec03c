use Rattle.std.proofs.Common.{◌+◌, [], ◌∷◌, length}
use Rattle.nr_ring.specs.LogHistory.{log_after, tail}
use Rattle.nr_ring.specs.declared.ring.log_event.LogEvent.TheVariants.{Append, Advance}
use Rattle.nr_ring.proofs.ring.ring_log.RingLog.append_and_take.Given as goal

abbrev pub ghosts-try_append_and_take : goal.ghosts-try_append_and_take
ghosts-try_append_and_take g a = record {
  events = Append a.batch.now ∷ Advance a.replica (tail (log_after g.J.LogName.replicas a.pass.now.view.seen) + length a.batch.now) ∷ [];
  ring = a.ring;
}
