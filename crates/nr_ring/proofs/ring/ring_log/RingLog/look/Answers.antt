use Rattle.nr_ring.proofs.ring.ring_log.RingLog.look.Goals as goal

pub invariant_of-pass : goal.invariant_of-pass
invariant_of-pass g c = c.refresh.ensures.known c.pass.inside.replica c.pass.inside.ring c.pass.invariant
