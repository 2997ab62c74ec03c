use Rattle.std.proofs.Common.{rules}
use Rattle.nr_ring.proofs.Turns.{look_turns}
use Rattle.nr_ring.proofs.Passes.{look_remembers}
use Rattle.nr_ring.proofs.ring.ring_log.RingLog.refresh.Goals as goal

pub look_as-requires : goal.look_as-requires
look_as-requires g c = (search rules, (search rules, (search rules, look_turns _ _ _ _ _ _)))

pub returns-clause-known : goal.returns-clause-known
returns-clause-known g c = λ replica ring is.
    look_remembers _ _ _ _ replica ring c.args.pass.now c.look_as.new.pass is c.look_as.ensures.same.2 c.look_as.ensures.same.3 c.look_as.ensures.rule
