use Rattle.std.proofs.Common.{◌≡◌, ◌+◌, []}
use Rattle.std.specs.Prelude.{nat_eq, if◌then◌else◌}
use Rattle.vs_walk.specs.Memory.{Memory}
use Rattle.vs_plan.specs.Planner.{frames_given}
use Rattle.nrvs_plan_c.specs.Direct.{HasFramesWithin, HasNoneBeyond}
use Rattle.nrvs_plan_c.specs.Kept.{planner_in, target_in}
use Rattle.nrvs_plan_c.specs.Range.{IsRangeNextOf, IsRangeStatus, IsSoundRange, KeepsRange, range_sees_in}
use Rattle.nrvs_plan_c.proofs.RangesDown.{ComesDown}
use Rattle.nrvs_plan_c.proofs.ways.range_in.see_range_in.Given as goal

abbrev pub invariant-loop-status : goal.invariant-loop-status
invariant-loop-status l = IsSoundRange l.run
    × IsRangeStatus l.run l.status
    × KeepsRange l.fn.run l.run
    × (l.status ≡ 33 → frames_given (planner_in l.run.plan) ≡ [])
    × ((memory : Memory) → HasFramesWithin (target_in l.fn.run.plan.call) memory l.fn.first l.fn.frames → IsRangeNextOf memory l.run [] l.status)
    × ((memory : Memory) → HasFramesWithin (target_in l.fn.run.plan.call) memory l.fn.first l.fn.frames
    → HasNoneBeyond (target_in l.fn.run.plan.call) memory → ComesDown memory l.run l.status)

abbrev pub decreases-loop-status : goal.decreases-loop-status
decreases-loop-status l = if nat_eq l.status 32 then range_sees_in l.run + 1 else 0
