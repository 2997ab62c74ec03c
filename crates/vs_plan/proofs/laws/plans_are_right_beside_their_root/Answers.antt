use Rattle.vs_plan.proofs.BesidePlans.{right_beside}
use Rattle.vs_plan.proofs.laws.plans_are_right_beside_their_root.Goals as goal

pub returns : goal.returns
returns c = right_beside
