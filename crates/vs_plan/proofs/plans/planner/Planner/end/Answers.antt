use Rattle.std.proofs.Common.{[], sym, subst}
use Rattle.vs_plan.specs.declared.plans.plan.Plan.{Plan}
use Rattle.vs_plan.specs.Right.{IsRight}
use Rattle.vs_plan.proofs.plans.planner.Planner.end.Goals as goal
use Rattle.vs_plan.proofs.plans.planner.Planner.end.Goals.{in-Unmap, in-Protect, in-Ask, in-Remap, in-Join, in-Prune, in-Collapse}

pub returns-clause-next : goal.returns-clause-next
returns-clause-next g c = λ memory ended there space premise.
    let p = c.args.self.now in
    elim c.match-self.branch [
      | in-Unmap w ↦ subst (λ (plan : Plan). IsRight p.target p.request memory space [] plan) (sym w.plan-is)
          (w.plan_unmap-plan.ensures memory ended space premise)
      | in-Protect w ↦ subst (λ (plan : Plan). IsRight p.target p.request memory space [] plan) (sym w.plan-is)
          (w.plan_protect-plan.ensures memory ended space premise)
      | in-Ask w ↦ subst (λ (plan : Plan). IsRight p.target p.request memory space [] plan) (sym w.plan-is)
          (w.plan_ask-plan.ensures memory ended space premise)
      | in-Remap w ↦ subst (λ (plan : Plan). IsRight p.target p.request memory space [] plan) (sym w.plan-is)
          (w.plan_remap-plan.ensures memory ended space premise)
      | in-Join w ↦ subst (λ (plan : Plan). IsRight p.target p.request memory space [] plan) (sym w.plan-is)
          (w.plan_join-plan.ensures memory ended there space premise)
      | in-Prune w ↦ subst (λ (plan : Plan). IsRight p.target p.request memory space [] plan) (sym w.plan-is)
          (w.plan_prune-plan.ensures memory ended there space premise)
      | in-Collapse w ↦ subst (λ (plan : Plan). IsRight p.target p.request memory space [] plan) (sym w.plan-is)
          (w.plan_collapse-plan.ensures memory ended there space premise)
    ]
