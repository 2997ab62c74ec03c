use Rattle.nr_ring.proofs.Histories.{refused}
use Rattle.nr_ring.proofs.laws.refused_for_a_reason.Goals as goal

pub returns-clause-one : goal.returns-clause-one
returns-clause-one c = refused
