use Rattle.vs_types.proofs.Looks.{others_leave}
use Rattle.vs_types.proofs.laws.other_answers_leave_the_space.Goals as goal

pub returns : goal.returns
returns c = others_leave
