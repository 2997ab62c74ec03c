-- What comes of the words of a frame that are shown, to a plan and to a range: no public clause cites it.
use Rattle.std.specs.Prelude.{◌≡◌, ◌<◌, ◌≤◌, ℕ, List, [], Some}
use Rattle.std.specs.FinMap as finite
use Rattle.vs_walk.specs.Memory.{Memory}
use Rattle.vs_plan.specs.declared.plans.plan.TheConstants.{MOST_UNLINKED}
use Rattle.vs_plan.specs.Planner.{frames_given}
use Rattle.vs_plan.specs.Shown.{IsShown}
use Rattle.nrvs_plan_c.specs.declared.records.codes.TheConstants.{ENDED}
use Rattle.nrvs_plan_c.specs.declared.records.kept.Plan.{Plan}
use Rattle.nrvs_plan_c.specs.Kept.{IsSound, phase_in, planner_in, shows_left}
use Rattle.nrvs_plan_c.specs.Next.{IsNextOf, status_in}
use Rattle.nrvs_plan_c.specs.Range.{IsRangeStatus, IsSoundRange, KeepsRange, range_sees_in}
use Rattle.nrvs_plan_c.specs.declared.records.range.Run.{Run}

-- the plan, once it was shown these words of the frame that it asked for
pub record IsSeen (words : List ℕ) (old new : Plan) (code : ℕ) : Type 0 where
  pub asked : code ≡ 17 → ⊥
  pub status : code ≡ status_in (phase_in new.way.phase)
  pub ended : code ≡ 0 → new.way.phase ≡ ENDED
  pub named : code ≡ 0 → new.unlinked_count ≤ MOST_UNLINKED
  pub sound : IsSound new
  pub call : new.call ≡ old.call
  pub fewer : code ≡ 32 → shows_left new < shows_left old
  pub given : code ≡ 33 → frames_given (planner_in new) ≡ []
  pub next : (memory : Memory) → IsShown memory (planner_in old) → finite.get memory old.frame ≡ Some words → IsNextOf memory new [] code

-- the range after a step, whatever words were shown: it is sound and the same, and asks for fewer frames
pub record IsRangeStep (old new : Run) (code : ℕ) : Type 0 where
  pub asked : code ≡ 17 → ⊥
  pub status : IsRangeStatus new code
  pub sound : IsSoundRange new
  pub kept : KeepsRange old new
  pub fewer : code ≡ 32 → range_sees_in new < range_sees_in old
  pub given : code ≡ 33 → frames_given (planner_in new.plan) ≡ []
