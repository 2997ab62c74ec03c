use Rattle.std.proofs.Common.{[], ◌∷◌}
use Rattle.nr_ring.specs.declared.ring.log_event.LogEvent.TheVariants.{Append}
use Rattle.nr_ring.proofs.ring.ring_log.RingLog.append.Given as goal

abbrev pub ghosts-try_append : goal.ghosts-try_append
ghosts-try_append g a = record { events = Append a.batch.now ∷ []; ring = a.ring }
