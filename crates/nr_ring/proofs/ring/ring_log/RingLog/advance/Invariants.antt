use Rattle.std.proofs.Common.{[], ◌∷◌}
use Rattle.nr_ring.specs.declared.ring.log_event.LogEvent.TheVariants.{Advance}
use Rattle.nr_ring.proofs.ring.ring_log.RingLog.advance.Given as goal

-- no entry is stored, so that any ring serves
abbrev pub ghosts-try_advance : goal.ghosts-try_advance
ghosts-try_advance g a = record { events = Advance a.replica a.to ∷ []; ring = 0 }
