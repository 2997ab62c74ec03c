use Rattle.std.proofs.Common.{◌≡◌, ◌+◌, ◌-◌, ◌<◌, Some, refl, subst, ◌∙◌, arith}
use Rattle.std.specs.FinMap as finite
use Rattle.vs_plan.specs.declared.plans.target.Target.{Target}
use Rattle.vs_plan.specs.Target.{frames_end}
use Rattle.vs_range.specs.Direct.{HasSeenIn}
use Rattle.vs_range.proofs.direct.see_in.Goals as goal

pub loop-step-init : goal.loop-step-init
loop-step-init c = record {
  of_target = refl;
  of_request = refl;
  awaits = (c.requires.awaits, refl);
  given = tt;
  next = λ memory has. c.requires.shown memory;
}

pub loop-step-preserved : goal.loop-step-preserved
loop-step-preserved c =
    let before = subst (HasSeenIn c.args.planner.now.target c.args.planner.now.request c.args.first c.args.frames.now c.loop-step.planner)
    c.in-See.is c.loop-step.invariant in
    let step = c.see-step.ensures in
    let at = c.in-Some.ensures.there in
    let place : c.args.first + (c.in-See.number - c.args.first) ≡ c.loop-step.planner.number =
    omega (arith, at.0, before.awaits.1) in
    record {
      of_target = step.same.0 ∙ before.of_target;
      of_request = step.same.1 ∙ before.of_request;
      awaits = step.awaits;
      given = step.given;
      next = λ memory has. step.next memory (before.next memory has)
          (subst (λ n. finite.get memory n ≡ Some c.in-Some.words.now) place
          (has _ c.in-Some.words.now at.1
          (omega (arith, place, subst (λ (t : Target). c.loop-step.planner.number < frames_end t) before.of_target before.awaits.0.within)) at.2));
    }
