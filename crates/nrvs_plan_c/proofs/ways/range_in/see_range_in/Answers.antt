use Rattle.std.proofs.Common.{◌≡◌, ◌+◌, ◌-◌, ◌<◌, Some, inr, ⊎_elim, refl, sym, ap, subst, ◌∙◌, arith}
use Rattle.std.specs.FinMap as finite
use Rattle.vs_walk.specs.Memory.{Memory}
use Rattle.vs_plan.specs.Target.{frames_end}
use Rattle.nrvs_plan_c.specs.declared.records.kept.Call.{Call}
use Rattle.nrvs_plan_c.specs.Direct.{HasFramesWithin, HasNoneBeyond}
use Rattle.nrvs_plan_c.specs.Kept.{phase_in, request_in, target_in}
use Rattle.nrvs_plan_c.proofs.RangesDown.{ComesDown, comes_begun, comes_on}
use Rattle.nrvs_plan_c.proofs.Walking.{awaits_words}
use Rattle.nrvs_plan_c.proofs.ways.range_in.see_range_in.Goals as goal

pub loop-status-init : goal.loop-status-init
loop-status-init c =
    let begun = c.requires in (
      begun.sound,
      record {
        one = inr (omega arith, omega arith);
        sees = λ is. begun.waits;
        gives = λ is. absurd (omega (arith, is));
        ended = λ is. absurd (is refl);
        named = λ is. absurd (omega (arith, is));
        room = λ is. absurd (⊎_elim (λ (e : 32 ≡ 34). omega (arith, e)) (λ (e : 32 ≡ 35). omega (arith, e)) is);
      },
      record { call = refl; base = refl; bytes = refl },
      λ is. absurd (omega (arith, is)),
      λ memory has. record {
        sees = λ is. begun.shown memory;
        gives = λ is. absurd (omega (arith, is));
        planned = λ is. absurd (omega (arith, is));
        runs = λ is. absurd (omega (arith, is));
        harvests = λ is. absurd (omega (arith, is));
        absent = λ is. absurd (omega (arith, is));
        beyond = λ is. absurd (omega (arith, is));
      },
      λ memory has none. comes_begun memory _ _ _ c.args.run.now begun,
    )

pub loop-status-preserved : goal.loop-status-preserved
loop-status-preserved c =
    let seen = c.see_range-status.ensures in
    let step = seen.step in
    let at = c.in-Some.ensures.there in
    let before = c.loop-status.invariant in
    let awaits = awaits_words (phase_in c.loop-status.run.plan.way.phase) (before.1.sees c.loop-status-test.true) before.0.plan.waits in
    let within : c.loop-status.run.plan.frame < frames_end (target_in c.args.run.now.plan.call) =
    subst (λ (call : Call). c.loop-status.run.plan.frame < frames_end (target_in call)) before.2.call awaits.within in
    let place : c.args.first + (c.loop-status.run.plan.frame - c.args.first) ≡ c.loop-status.run.plan.frame = omega (arith, at.0) in
    let there : (memory : Memory) → HasFramesWithin (target_in c.args.run.now.plan.call) memory c.args.first c.args.frames.now
    → finite.get memory c.loop-status.run.plan.frame ≡ Some c.in-Some.words.now.word =
    λ memory has. subst (λ n. finite.get memory n ≡ Some c.in-Some.words.now.word) place
    (has _ c.in-Some.words.now at.1 (omega (arith, at.0, at.1, within)) at.2) in (
      step.sound,
      step.status,
      record {
        call = step.kept.call ∙ before.2.call;
        base = step.kept.base ∙ before.2.base;
        bytes = step.kept.bytes ∙ before.2.bytes;
      },
      step.given,
      λ memory has. seen.next memory ((before.4 memory has).sees c.loop-status-test.true) (there memory has),
      λ memory has none. comes_on memory c.loop-status.run c.see_range-status.new.run c.in-Some.words.now.word c.see_range-status.result before.0
          ((before.4 memory has).sees c.loop-status-test.true) (there memory has) seen.taken seen.leads
          (subst (λ (call : Call). HasNoneBeyond (target_in call) memory) (sym before.2.call) none) step.kept
          (subst (ComesDown memory c.loop-status.run) c.loop-status-test.true (before.5 memory has none)),
    )

pub returns : goal.returns
returns c =
    let at = c.loop-status.invariant in
    record {
      seen = record {
        sound = at.0;
        is = at.1;
        elsewhere = λ is. absurd (c.loop-status-test.false is);
        given = at.3;
        target_kept = ap target_in at.2.call;
        request_kept = ap request_in at.2.call;
        bytes_kept = at.2.bytes;
        next = at.4;
        taken = λ ended memory has none. (at.5 memory has none).taken ended;
      };
    }
