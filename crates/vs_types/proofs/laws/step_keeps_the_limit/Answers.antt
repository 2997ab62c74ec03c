use Rattle.vs_types.proofs.Tables.{step_limit, unmap_tables, protect_tables}
use Rattle.vs_types.proofs.laws.step_keeps_the_limit.Goals as goal

pub returns-clause-limit : goal.returns-clause-limit
returns-clause-limit c = λ depth limit space action is. step_limit limit is action

pub returns-clause-unmap : goal.returns-clause-unmap
returns-clause-unmap c = λ depth limit space base is. unmap_tables limit is base

pub returns-clause-protect : goal.returns-clause-protect
returns-clause-protect c = λ depth limit space base rights is. protect_tables limit is base rights
