use Rattle.std.proofs.Common.{refl}
use Rattle.vs_types.proofs.Afterwards.{after_next}
use Rattle.vs_types.proofs.laws.spaces_go_on_by_operations.Goals as goal

pub returns-clause-start : goal.returns-clause-start
returns-clause-start c = λ depth limit actions. refl

pub returns-clause-next : goal.returns-clause-next
returns-clause-next c = after_next
