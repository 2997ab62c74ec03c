use Rattle.std.proofs.Common.{◌≡◌, ◌+◌, ◌≤◌, []}
use Rattle.std.specs.Prelude.{nat_eq, if◌then◌else◌}
use Rattle.vs_walk.specs.Memory.{Memory}
use Rattle.vs_plan.specs.declared.plans.plan.TheConstants.{MOST_UNLINKED}
use Rattle.vs_plan.specs.Planner.{frames_given}
use Rattle.nrvs_plan_c.specs.declared.records.codes.TheConstants.{ENDED}
use Rattle.nrvs_plan_c.specs.Direct.{HasFramesWithin}
use Rattle.nrvs_plan_c.specs.Kept.{IsSound, phase_in, planner_in, shows_left, target_in}
use Rattle.nrvs_plan_c.specs.Next.{IsNextOf, status_in}
use Rattle.nrvs_plan_c.proofs.ways.in_steps.see_in.Given as goal

abbrev pub invariant-loop-status : goal.invariant-loop-status
invariant-loop-status l = IsSound l.plan
    × (l.status ≡ status_in (phase_in l.plan.way.phase))
    × (l.plan.call ≡ l.fn.plan.call)
    × (l.status ≡ 33 → frames_given (planner_in l.plan) ≡ [])
    × (l.status ≡ 0 → l.plan.way.phase ≡ ENDED)
    × (l.status ≡ 0 → l.plan.unlinked_count ≤ MOST_UNLINKED)
    × ((memory : Memory) → HasFramesWithin (target_in l.fn.plan.call) memory l.fn.first l.fn.frames → IsNextOf memory l.plan [] l.status)

abbrev pub decreases-loop-status : goal.decreases-loop-status
decreases-loop-status l = if nat_eq l.status 32 then shows_left l.plan + 1 else 0
