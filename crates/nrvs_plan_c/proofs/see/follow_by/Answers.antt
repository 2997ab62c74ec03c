use Rattle.std.proofs.Common.{◌≤◌, [], sym, ap, subst, ◌∙◌, arith}
use Rattle.std.specs.FinMap as finite
use Rattle.vs_plan.specs.declared.plans.planner.Planner.{Planner}
use Rattle.vs_plan.specs.Shown.{IsDescended}
use Rattle.nrvs_plan_c.proofs.Keeping.{one_way}
use Rattle.nrvs_plan_c.proofs.Shown.{descended_down}
use Rattle.nrvs_plan_c.proofs.see.follow_by.Goals as goal

pub returns : goal.returns
returns g c = record {
  asked = c.go_on.ensures.asked;
  status = c.go_on.ensures.status;
  ended = c.go_on.ensures.ended;
  named = c.go_on.ensures.named;
  sound = c.go_on.ensures.sound;
  call = c.go_on.ensures.call;
  given = λ is. c.go_on.ensures.given [] is c.follow-step.ensures.given;
  fewer = λ is.
      omega (
        arith,
        one_way c.go_on.new.plan c.go_on.ensures.phase,
        one_way c.args.plan.now (omega (arith, c.requires.descent)),
        c.go_on.ensures.level is,
        c.follow-step.ensures.fewer,
        ap (λ (p : Planner). p.level) c.requires.planner,
      );
  next = λ memory shown there.
      let down : c.args.plan.now.way.phase ≤ 1 = omega (arith, c.requires.descent) in
      c.go_on.ensures.next memory []
      (c.follow-step.ensures.next memory (subst (IsDescended memory) (sym c.requires.planner) (descended_down c.args.plan.now down memory shown))
      (ap (λ (p : Planner). finite.get memory p.number) c.requires.planner ∙ there));
}
