use Rattle.std.proofs.Common.{[], sym, ap, subst, ◌∙◌, arith}
use Rattle.std.specs.FinMap as finite
use Rattle.vs_plan.specs.declared.plans.planner.Planner.{Planner}
use Rattle.vs_plan.specs.Shown.{IsShown}
use Rattle.nrvs_plan_c.proofs.Keeping.{one_way}
use Rattle.nrvs_plan_c.proofs.see.search_by.Goals as goal

pub returns-clause-level : goal.returns-clause-level
returns-clause-level g c = λ is.
    omega (arith, c.go_on.ensures.level is, c.see-step.ensures.fewer, ap (λ (p : Planner). p.level) c.requires.planner)

pub returns-clause-seen : goal.returns-clause-seen
returns-clause-seen g c = record {
  asked = c.go_on.ensures.asked;
  status = c.go_on.ensures.status;
  ended = c.go_on.ensures.ended;
  named = c.go_on.ensures.named;
  sound = c.go_on.ensures.sound;
  call = c.go_on.ensures.call;
  given = λ is. c.go_on.ensures.given [] is c.see-step.ensures.given;
  fewer = λ is.
      omega (
        arith,
        one_way c.go_on.new.plan c.go_on.ensures.phase,
        one_way c.args.plan.now (omega (arith, c.requires.searches)),
        c.go_on.ensures.level is,
        c.see-step.ensures.fewer,
        ap (λ (p : Planner). p.level) c.requires.planner,
      );
  next = λ memory shown there.
      c.go_on.ensures.next memory []
      (c.see-step.ensures.next memory (subst (IsShown memory) (sym c.requires.planner) shown)
      (ap (λ (p : Planner). finite.get memory p.number) c.requires.planner ∙ there));
}
