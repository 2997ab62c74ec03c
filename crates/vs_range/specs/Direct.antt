-- Frames that lie one after another in memory, as in a direct map.
use Rattle.std.specs.Prelude.{◌≡◌, ◌⊎◌, ℕ, ◌+◌, ◌<◌, ◌≤◌, List, [], length, slice_index_or, Some}
use Rattle.std.specs.FinMap as finite
use Rattle.vs_walk.specs.Memory.{Memory}
use Rattle.vs_plan.specs.declared.plans.plan.Step.{Step}
use Rattle.vs_plan.specs.declared.plans.planner.Planner.{Planner}
use Rattle.vs_plan.specs.declared.plans.request.Request.{Request}
use Rattle.vs_plan.specs.declared.plans.target.Target.{Target}
use Rattle.vs_plan.specs.Planner.{Awaits, HasGiven}
use Rattle.vs_plan.specs.Shown.{IsNext}
use Rattle.vs_plan.specs.Target.{frames_end}

-- the memory has these frames, from a number on, but for those beyond the physical addresses
abbrev pub HasFrames : Target → Memory → ℕ → List (List ℕ) → Type 0
HasFrames target memory first frames = (i : ℕ) (words : List ℕ) → i < length frames → first + i < frames_end target
    → words ≡ slice_index_or frames i words → finite.get memory (first + i) ≡ Some words

-- a frame is none of so many, from a number on
abbrev pub IsElsewhere : ℕ → ℕ → ℕ → Type 0
IsElsewhere first count number = (number < first) ⊎ (first + count ≤ number)

-- a planner of the request was shown some of these frames: what its step means in each memory that has them
pub record HasSeenIn (target : Target) (request : Request) (first : ℕ) (frames : List (List ℕ)) (planner : Planner) (step : Step) : Type 0 where
  pub of_target : planner.target ≡ target
  pub of_request : planner.request ≡ request
  pub awaits : Awaits planner step
  pub given : HasGiven planner [] step
  pub next : (memory : Memory) → HasFrames target memory first frames → IsNext memory planner [] step
