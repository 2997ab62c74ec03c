use Rattle.std.proofs.Common.{refl}
use Rattle.nr_trace.proofs.LawsOfSteps.{space_next}
use Rattle.nr_trace.proofs.laws.spaces_go_on_by_places.Goals as goal

pub returns-clause-start : goal.returns-clause-start
returns-clause-start c = λ start trace. refl

pub returns-clause-next : goal.returns-clause-next
returns-clause-next c = space_next
