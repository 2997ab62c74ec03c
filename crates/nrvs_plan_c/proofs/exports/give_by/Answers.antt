use Rattle.std.proofs.Common.{ℕ, [], ◌∷◌, ◌++◌, sym, ap, subst, ◌∙◌}
use Rattle.std.specs.Prelude.{IfSome}
use Rattle.vs_plan.specs.declared.plans.planner.Planner.{Planner}
use Rattle.vs_plan.specs.Planner.{IsSpareFor, frames_given}
use Rattle.vs_plan.specs.Shown.{IsShown}
use Rattle.nrvs_plan_c.proofs.Keeping.{some_more}
use Rattle.nrvs_plan_c.proofs.exports.give_by.Goals as goal

pub returns-clause-given : goal.returns-clause-given
returns-clause-given c = λ is.
    some_more c.args.frame _ _
    (λ n given. c.go_on.ensures.given _ is given ∙ ap (λ (p : Planner). frames_given p ++ n ∷ []) c.requires.planner)
    c.give-step.ensures.given

pub returns-clause-next : goal.returns-clause-next
returns-clause-next c = λ memory shown spare.
    c.go_on.ensures.next memory (c.args.frame ∷ [])
    (c.give-step.ensures.next memory (subst (IsShown memory) (sym c.requires.planner) shown)
    (subst (λ (p : Planner). IfSome c.args.frame (λ (number : ℕ). IsSpareFor memory p number)) (sym c.requires.planner) spare))
