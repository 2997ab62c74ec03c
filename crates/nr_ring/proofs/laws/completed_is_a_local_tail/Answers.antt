use Rattle.nr_ring.proofs.LocalTails.{below_greatest, greatest_reached}
use Rattle.nr_ring.proofs.laws.completed_is_a_local_tail.Goals as goal

pub returns-clause-reached : goal.returns-clause-reached
returns-clause-reached c = λ log some. greatest_reached log.locals some

pub returns-clause-greatest : goal.returns-clause-greatest
returns-clause-greatest c = λ log replica. below_greatest log.locals replica
