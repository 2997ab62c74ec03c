-- A range that has begun, of a plan that has.
use Rattle.std.proofs.Common.{◌≡◌, ℕ, subst, arith}
use Rattle.vs_plan.specs.declared.plans.planner.Phase.{Phase}
use Rattle.vs_plan.specs.declared.plans.planner.Phase.TheVariants as phases
use Rattle.vs_plan.specs.declared.plans.request.Request.{Request}
use Rattle.vs_plan.specs.declared.plans.target.Target.{Target}
use Rattle.vs_plan.specs.Request.{IsRequest}
use Rattle.nrvs_plan_c.specs.declared.records.kept.Plan.{Plan}
use Rattle.nrvs_plan_c.specs.declared.records.range.Run.{Run}
use Rattle.nrvs_plan_c.specs.Kept.{IsWaiting, phase_in, planner_in, request_in, target_at, target_in}
use Rattle.nrvs_plan_c.specs.Next.{HasBegun, status_in}
use Rattle.nrvs_plan_c.specs.Range.{HasBegunRange}
use Rattle.nrvs_plan_c.proofs.CallKinds.{good_in}

-- its request is one
pub good_begun : (plan : Plan) → HasBegun plan → IsRequest (target_in plan.call) (request_in plan.call)
good_begun plan begun =
    good_in plan.call plan.way.phase (request_in plan.call)
    (by (phase_in plan.way.phase) begun.at_root.waits begun.at_root.sound.waits) where
      by : (phase : Phase) → status_in phase ≡ 32 → IsWaiting phase (planner_in plan) → IsRequest (target_at plan.way.phase plan.call) (request_in plan.call)
      by phases.Descent is waits = waits.request
      by phases.Search is waits = waits.request
      by phases.Growth is waits = absurd (omega (arith, is))
      by phases.Division is waits = absurd (omega (arith, is))
      by phases.Ended is waits = absurd (omega (arith, is))

pub begun_as : {run : Run} {target there : Target} {request asked : Request} {bytes : ℕ} → there ≡ target → asked ≡ request
    → HasBegunRange there asked bytes run → HasBegunRange target request bytes run
begun_as {run} {target} {there} {request} {asked} {bytes} same alike begun =
    subst (λ (r : Request). HasBegunRange target r bytes run) alike (subst (λ (t : Target). HasBegunRange t asked bytes run) same begun)
