use Rattle.std.proofs.Common.{subst}
use Rattle.vs_plan.specs.declared.plans.planner.Phase.{Phase}
use Rattle.vs_plan.specs.Shown.{IsShownIn}
use Rattle.vs_plan.proofs.plans.planner.Planner.see.Goals as goal

pub returns-in-Descent-clause-next : goal.returns-in-Descent-clause-next
returns-in-Descent-clause-next g c = λ memory shown there.
    c.descend.ensures.next memory (subst (λ (phase : Phase). IsShownIn phase memory c.args.self.now) c.in-Descent.is shown) there

pub returns-in-Search-clause-next : goal.returns-in-Search-clause-next
returns-in-Search-clause-next g c = λ memory shown there.
    c.search.ensures.next memory (subst (λ (phase : Phase). IsShownIn phase memory c.args.self.now) c.in-Search.is shown) there
