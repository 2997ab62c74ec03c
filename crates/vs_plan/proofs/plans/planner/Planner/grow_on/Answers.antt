use Rattle.vs_plan.proofs.plans.planner.Planner.grow_on.Goals as goal

pub returns-clause-next : goal.returns-clause-next
returns-clause-next c = λ memory offered grown spare.
    c.link.ensures.next memory offered (c.fill.ensures.grown memory grown spare)
