-- Ranges over frames that lie one after another in memory.
use Rattle.std.specs.Prelude.{◌≡◌, ◌≢◌, ℕ, false, List, [], length, Some}
use Rattle.std.specs.FinMap as finite
use Rattle.vs_walk.specs.Memory.{Memory}
use Rattle.vs_plan.specs.declared.plans.request.Request.{Request}
use Rattle.vs_plan.specs.declared.plans.target.Target.{Target}
use Rattle.vs_plan.specs.Planner.{frames_given}
use Rattle.vs_plan.specs.Way.{IsWay}
use Rattle.vs_range.specs.declared.planner.RangePlanner.{RangePlanner}
use Rattle.nrvs_plan_c.specs.declared.records.kept.Words.{Words}
use Rattle.nrvs_plan_c.specs.declared.records.range.Run.{Run}
use Rattle.nrvs_plan_c.specs.Direct.{HasFramesWithin, HasNoneBeyond, IsElsewhere}
use Rattle.nrvs_plan_c.specs.Kept.{planner_in, request_in, target_in}
use Rattle.nrvs_plan_c.specs.Range.{IsRangeNextOf, IsRangeStatus, IsSoundRange, TakesPageOf}

-- a planner of the same range is at a table on the way of its base
pub record StandsAt (run : Run) (memory : Memory) (range : RangePlanner) : Type 0 where
  pub of_target : range.planner.target ≡ target_in run.plan.call
  pub of_request : range.planner.request ≡ request_in run.plan.call
  pub of_base : range.base ≡ run.base
  pub of_bytes : range.bytes ≡ run.bytes
  pub together : range.alone ≡ false
  pub way : IsWay range.planner.target.depth memory range.planner.target.root range.base range.planner.level range.planner.number range.planner.rights

-- what was asked for of these frames was shown: the range has ended, or waits for a frame that lies elsewhere, or for an empty one. Where it has ended,
-- the page at its base is named or in a run, in whatever table on the way it is
pub record HasSeenRange (target : Target) (request : Request) (bytes first : ℕ) (frames : List Words) (run : Run) (status : ℕ) : Type 0 where
  pub sound : IsSoundRange run
  pub is : IsRangeStatus run status
  pub elsewhere : status ≡ 32 → IsElsewhere first (length frames) run.plan.frame
  pub given : status ≡ 33 → frames_given (planner_in run.plan) ≡ []
  pub target_kept : target_in run.plan.call ≡ target
  pub request_kept : request_in run.plan.call ≡ request
  pub bytes_kept : run.bytes ≡ bytes
  pub next : (memory : Memory) → HasFramesWithin target memory first frames → IsRangeNextOf memory run [] status
  pub taken : status ≢ 32 → (memory : Memory) → HasFramesWithin target memory first frames → HasNoneBeyond target memory
      → (range : RangePlanner) (words : List ℕ) → StandsAt run memory range → finite.get memory range.planner.number ≡ Some words
      → TakesPageOf range words run status
