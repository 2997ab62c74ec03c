use Rattle.vs_plan.proofs.Given.{filled_same}
use Rattle.vs_plan.proofs.PlansSuffice.{plan_suffices}
use Rattle.vs_plan.proofs.laws.flushes_of_right_plans_suffice.Goals as goal

pub returns : goal.returns
returns c = record {
  filled = λ target request memory space offered plan right.
      filled_same target request memory offered plan.fill plan.stores.items plan.unlinked.items right.put;
  suffice = plan_suffices;
}
