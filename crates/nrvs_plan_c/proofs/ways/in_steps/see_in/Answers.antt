use Rattle.std.proofs.Common.{◌≡◌, ◌+◌, ◌-◌, ◌<◌, Some, sym, subst, ◌∙◌, arith}
use Rattle.std.specs.FinMap as finite
use Rattle.vs_plan.specs.Target.{frames_end}
use Rattle.nrvs_plan_c.specs.declared.records.kept.Call.{Call}
use Rattle.nrvs_plan_c.specs.Kept.{phase_in, target_in}
use Rattle.nrvs_plan_c.proofs.Walking.{awaits_words}
use Rattle.nrvs_plan_c.proofs.ways.in_steps.see_in.Goals as goal

pub loop-status-preserved : goal.loop-status-preserved
loop-status-preserved c =
    let step = c.see_each_once-status.ensures in
    let at = c.in-Some.ensures.there in
    let awaits = awaits_words (phase_in c.loop-status.plan.way.phase) (sym c.loop-status.invariant.1 ∙ c.loop-status-test.true)
    c.loop-status.invariant.0.waits in
    let within : c.loop-status.plan.frame < frames_end (target_in c.args.plan.now.call) =
    subst (λ (call : Call). c.loop-status.plan.frame < frames_end (target_in call)) c.loop-status.invariant.2 awaits.within in
    let place : c.args.first + (c.loop-status.plan.frame - c.args.first) ≡ c.loop-status.plan.frame = omega (arith, at.0) in (
      step.sound,
      step.status,
      step.call ∙ c.loop-status.invariant.2,
      step.given,
      step.ended,
      step.named,
      λ memory has. step.next memory ((c.loop-status.invariant.6 memory has).sees c.loop-status-test.true)
          (subst (λ n. finite.get memory n ≡ Some c.in-Some.words.now.word) place (has _ c.in-Some.words.now at.1 (omega (arith, at.0, at.1, within)) at.2)),
    )
