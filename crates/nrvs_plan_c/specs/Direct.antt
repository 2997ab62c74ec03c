-- Frames that lie one after another in memory, as in a direct map.
use Rattle.std.specs.Prelude.{◌≡◌, ◌≢◌, ◌⊎◌, ℕ, ◌+◌, ◌<◌, ◌≤◌, List, [], length, slice_index_or, Some, None}
use Rattle.std.specs.FinMap as finite
use Rattle.vs_walk.specs.Memory.{Memory}
use Rattle.vs_plan.specs.declared.plans.plan.TheConstants.{MOST_UNLINKED}
use Rattle.vs_plan.specs.declared.plans.request.Request.{Request}
use Rattle.vs_plan.specs.declared.plans.target.Target.{Target}
use Rattle.vs_plan.specs.Planner.{frames_given}
use Rattle.vs_plan.specs.Target.{frames_end}
use Rattle.nrvs_plan_c.specs.declared.records.codes.TheConstants.{ENDED}
use Rattle.nrvs_plan_c.specs.declared.records.kept.Plan.{Plan}
use Rattle.nrvs_plan_c.specs.declared.records.kept.Words.{Words}
use Rattle.nrvs_plan_c.specs.Kept.{IsSound, phase_in, planner_in, request_in, target_in}
use Rattle.nrvs_plan_c.specs.Next.{IsNextFor, status_in}

-- the memory has those of these frames that lie within the physical addresses
abbrev pub HasFramesWithin : Target → Memory → ℕ → List Words → Type 0
HasFramesWithin target memory first frames = (i : ℕ) (words : Words) → i < length frames → first + i < frames_end target
    → words ≡ slice_index_or frames i words → finite.get memory (first + i) ≡ Some words.word

-- the memory has no frame beyond the physical addresses
abbrev pub HasNoneBeyond : Target → Memory → Type 0
HasNoneBeyond target memory = (number : ℕ) → frames_end target ≤ number → finite.get memory number ≡ None

-- a frame is none of so many, from a number on
abbrev pub IsElsewhere : ℕ → ℕ → ℕ → Type 0
IsElsewhere first count number = (number < first) ⊎ (first + count ≤ number)

-- what was asked for of these frames was shown: the plan is there, or waits for a frame that lies elsewhere, or for an empty one
pub record HasSeen (target : Target) (request : Request) (first : ℕ) (frames : List Words) (plan : Plan) (status : ℕ) : Type 0 where
  pub sound : IsSound plan
  pub waits : status ≡ status_in (phase_in plan.way.phase)
  pub elsewhere : status ≡ 32 → IsElsewhere first (length frames) plan.frame
  pub given : status ≡ 33 → frames_given (planner_in plan) ≡ []
  pub ended : status ≡ 0 → plan.way.phase ≡ ENDED
  pub named : status ≡ 0 → plan.unlinked_count ≤ MOST_UNLINKED
  pub kept : status ≢ 0 → (target_in plan.call ≡ target) × (request_in plan.call ≡ request)
  pub next : (memory : Memory) → HasFramesWithin target memory first frames → IsNextFor target request memory plan [] status
