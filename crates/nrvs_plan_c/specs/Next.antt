-- What a call's status means.
use Rattle.std.specs.Prelude.{◌≡◌, ℕ, ◌+◌, List, Option, nat_lt, if◌then◌else◌}
use Rattle.vs_types.specs.Depth.{levels}
use Rattle.vs_types.specs.Space.{Space}
use Rattle.vs_walk.specs.Memory.{Memory}
use Rattle.vs_plan.specs.declared.plans.plan.Plan as plans
use Rattle.vs_plan.specs.declared.plans.planner.Phase.{Phase}
use Rattle.vs_plan.specs.declared.plans.request.Request.{Request}
use Rattle.vs_plan.specs.declared.plans.request.Request.TheVariants.{Unmap}
use Rattle.vs_plan.specs.declared.plans.target.Target.{Target}
use Rattle.vs_plan.specs.declared.plans.planner.Phase.TheVariants.{Descent, Search, Growth, Division, Ended}
use Rattle.vs_plan.specs.Premise.{IsPremise}
use Rattle.vs_plan.specs.Request.{address_of}
use Rattle.vs_plan.specs.Right.{IsRight}
use Rattle.vs_plan.specs.Shown.{IsShown}
use Rattle.vs_plan.specs.Target.{highest_link}
use Rattle.nrvs_plan_c.specs.declared.records.kept.Plan.{Plan}
use Rattle.nrvs_plan_c.specs.Kept.{IsSound, phase_in, planner_in, request_in, shows_left, target_in}
use Rattle.nrvs_plan_c.specs.Told.{IsTold}

-- the plan in these numbers is right for the request, for each space that the memory translates as
abbrev pub IsPlanned : Target → Request → Memory → Plan → List (Option ℕ) → Type 0
IsPlanned target request memory plan offered = (space : Space) → IsPremise target.depth memory target.root (address_of request) space
    → (made : plans.Plan) × IsRight target request memory space offered made × IsTold plan made

-- the status that says what a phase waits for: 32 the words of a frame, 33 a frame, 0 nothing, since the plan is there
abbrev pub status_in : Phase → ℕ
status_in Descent = 32
status_in Search = 32
status_in Growth = 33
status_in Division = 33
status_in Ended = 0

-- how many frames a request asks to see at most: one a level, or two where an unmap may unlink its page's table
abbrev pub shows_most : Target → Request → ℕ
shows_most target (Unmap base) = if nat_lt 1 (highest_link target) then levels target.depth + levels target.depth else levels target.depth
shows_most target request = levels target.depth

-- a plan is at its root: it waits for the words of a frame, and what is kept is so in any memory, of which nothing was shown yet
pub record IsAtRoot (plan : Plan) : Type 0 where
  pub sound : IsSound plan
  pub waits : status_in (phase_in plan.way.phase) ≡ 32
  pub shown : (memory : Memory) → IsShown memory (planner_in plan)

-- a plan has begun: it is at its root, and asks to see so many frames at most
pub record HasBegun (plan : Plan) : Type 0 where
  pub at_root : IsAtRoot plan
  pub most : shows_left plan ≡ shows_most (target_in plan.call) (request_in plan.call)

-- of 32 and 33 what is kept is so in the memory; of 0 the plan for the request is there
pub record IsNextFor (target : Target) (request : Request) (memory : Memory) (plan : Plan) (offered : List (Option ℕ)) (status : ℕ) : Type 0 where
  pub sees : status ≡ 32 → IsShown memory (planner_in plan)
  pub gives : status ≡ 33 → IsShown memory (planner_in plan)
  pub planned : status ≡ 0 → IsPlanned target request memory plan offered

-- the same for the request that is kept
abbrev pub IsNextOf : Memory → Plan → List (Option ℕ) → ℕ → Type 0
IsNextOf memory plan offered status = IsNextFor (target_in plan.call) (request_in plan.call) memory plan offered status
