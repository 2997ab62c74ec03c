use Rattle.std.proofs.Common.{refl, sym, ap, subst, ◌∙◌, arith}
use Rattle.vs_types.specs.Depth.{levels}
use Rattle.vs_plan.specs.Request.{address_of}
use Rattle.vs_range.specs.Planner.{IsRanged}
use Rattle.nrvs_plan_c.specs.declared.records.kept.Call.{Call}
use Rattle.nrvs_plan_c.specs.Kept.{depth_in, phase_in, request_in, target_in}
use Rattle.nrvs_plan_c.proofs.RangesBegun.{good_begun}
use Rattle.nrvs_plan_c.proofs.records.range.begin_range.Goals as goal

pub start-requires-clause-good : goal.start-requires-clause-good
start-requires-clause-good c = good_begun c.args.run.now.plan c.requires.begun

pub returns : goal.returns
returns c =
    let start = c.start.ensures in
    record {
      begun = record {
        sound = record {
          plan = start.begun.sound;
          base = ap (λ (k : Call). address_of (request_in k)) start.call ∙ c.requires.base;
          kind = subst (λ (k : Call). IsRanged (request_in k)) (sym start.call) c.requires.kind;
          phase = omega (arith, start.phase);
        };
        waits = start.begun.waits;
        of_target = ap target_in start.call;
        of_request = ap request_in start.call;
        of_bytes = refl;
        ends = c.requires.ends;
        together = refl;
        descends = ap phase_in start.phase;
        top = start.level ∙ sym (ap (λ (k : Call). levels (depth_in k.levels)) start.call);
        shown = start.begun.shown;
      };
    }
