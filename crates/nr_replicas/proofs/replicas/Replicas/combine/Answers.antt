use Rattle.nr_replicas.proofs.Hearing.{heard_twice}
use Rattle.nr_replicas.proofs.replicas.Replicas.combine.Goals as goal

pub returns-clause-heard : goal.returns-clause-heard
returns-clause-heard g c = heard_twice c.combine.ensures.heard c.tell.ensures.heard
