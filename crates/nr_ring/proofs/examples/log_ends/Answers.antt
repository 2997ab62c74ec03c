use Rattle.std.proofs.Common.{arith}
use Rattle.nr_ring.proofs.Rounds.{to_the_end}
use Rattle.nr_ring.proofs.examples.log_ends.Goals as goal

pub returns-clause-rounds : goal.returns-clause-rounds
returns-clause-rounds c = to_the_end.0

pub returns-clause-tail : goal.returns-clause-tail
returns-clause-tail c = to_the_end.1.tail

pub returns-clause-locals : goal.returns-clause-locals
returns-clause-locals c = to_the_end.1.locals

pub returns-clause-ended : goal.returns-clause-ended
returns-clause-ended c = omega (arith, to_the_end.1.tail)
