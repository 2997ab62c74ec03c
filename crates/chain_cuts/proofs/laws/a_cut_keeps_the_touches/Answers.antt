use Rattle.chain_cuts.proofs.TouchesApart.{touches_apart, touches_as_one}
use Rattle.chain_cuts.proofs.laws.a_cut_keeps_the_touches.Goals as goal

pub returns-clause-as_one : goal.returns-clause-as_one
returns-clause-as_one c = λ before start first second may same_layout clean front rest.
    touches_as_one start first second same_layout clean before may (front, rest)

pub returns-clause-apart : goal.returns-clause-apart
returns-clause-apart c = λ before start first second may same_layout clean caught.
    touches_apart start first second same_layout clean before may caught
