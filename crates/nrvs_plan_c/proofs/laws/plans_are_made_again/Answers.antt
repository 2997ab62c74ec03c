use Rattle.nrvs_plan_c.proofs.MadeAgain.{made_again}
use Rattle.nrvs_plan_c.proofs.laws.plans_are_made_again.Goals as goal

pub returns : goal.returns
returns c = made_again
