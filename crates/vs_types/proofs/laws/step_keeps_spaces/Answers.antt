use Rattle.vs_types.proofs.Steps.{step_space}
use Rattle.vs_types.proofs.laws.step_keeps_spaces.Goals as goal

pub returns : goal.returns
returns c = λ depth limit space action is good. step_space limit is action good
