-- The planner that is kept in C's struct between two calls.
use Rattle.std.specs.Prelude.{ℕ, ◌+◌, ◌/◌, ◌%◌, ◌≤◌, ◌||◌, Bool, min, nat_eq, take, if◌then◌else◌}
use Rattle.vs_types.specs.Bits.{rights_at}
use Rattle.vs_types.specs.Depth.{levels}
use Rattle.vs_types.specs.declared.addresses.depth.Depth.{Depth}
use Rattle.vs_types.specs.declared.addresses.depth.Depth.TheVariants.{Four, Five}
use Rattle.vs_types.specs.declared.addresses.page.Page.{Page}
use Rattle.vs_types.specs.declared.addresses.page.Rights.{Rights}
use Rattle.vs_types.specs.declared.addresses.page.Size.{Size}
use Rattle.vs_types.specs.declared.addresses.page.Size.TheVariants.{K4, M2, G1}
use Rattle.vs_plan.specs.declared.plans.plan.TheConstants.{MOST_STORES}
use Rattle.vs_plan.specs.declared.plans.planner.Phase.{Phase}
use Rattle.vs_plan.specs.declared.plans.planner.Phase.TheVariants.{Descent, Search, Growth, Division, Ended}
use Rattle.vs_plan.specs.declared.plans.planner.Planner.{Planner}
use Rattle.vs_plan.specs.declared.plans.request.Request.{Request}
use Rattle.vs_plan.specs.declared.plans.request.Request.TheVariants.{Map, Unmap, Protect, Ask, Remap, Split, Join, Prune, UnmapPart, Collapse}
use Rattle.vs_plan.specs.declared.plans.target.Target as targets
use Rattle.vs_plan.specs.Planner.{AwaitsWords, AwaitsFrame}
use Rattle.nrvs_plan_c.specs.declared.records.kept.Call.{Call}
use Rattle.nrvs_plan_c.specs.declared.records.kept.Plan.{Plan}
use Rattle.nrvs_plan_c.specs.declared.records.kept.Target.{Target}

-- the depth with so many levels
abbrev pub depth_in : ℕ → Depth
depth_in levels = if nat_eq levels 5 then Five else Four

-- the size of a code
abbrev pub size_in : ℕ → Size
size_in code = if nat_eq code 0 then K4 else if nat_eq code 1 then M2 else G1

-- the rights of a code
abbrev pub rights_in : ℕ → Rights
rights_in code = record { write = nat_eq (code % 2) 1; user = nat_eq (code / 2 % 2) 1; exec = nat_eq (code / 4 % 2) 1 }

-- how far a planner is, by its code
abbrev pub phase_in : ℕ → Phase
phase_in code =
    if nat_eq code 0 then Descent
    else if nat_eq code 1 then Descent
    else if nat_eq code 2 then Search
    else if nat_eq code 3 then Growth
    else if nat_eq code 4 then Division
    else Ended

-- whether a frame is waited for in the phase of a code
abbrev pub takes_frame : ℕ → Bool
takes_frame code = nat_eq code 3 || nat_eq code 4

-- the page table of C's target, in which no level is above 5
abbrev pub target_of : Target → targets.Target
target_of target =
    record { depth = depth_in target.levels; pinned = min target.pinned 6; phys_bits = target.phys_bits; root = target.root }

-- the page table that a plan is for
abbrev pub target_in : Call → targets.Target
target_in call = record { depth = depth_in call.levels; pinned = call.pinned; phys_bits = call.phys_bits; root = call.root }

-- the page table that a way is gone for in the phase of a code: on the first way down of an unmap, 0, each table stays
abbrev pub target_at : ℕ → Call → targets.Target
target_at code call =
    record { depth = depth_in call.levels; pinned = if nat_eq code 0 then 1 else call.pinned; phys_bits = call.phys_bits; root = call.root }

-- a page of these numbers
abbrev pub page_in : ℕ → ℕ → ℕ → ℕ → Page
page_in base size physical rights = record { base = base; size = size_in size; rights = rights_in rights; phys = physical }

-- what is to be done
abbrev pub request_in : Call → Request
request_in call =
    if nat_eq call.kind 0 then Map (page_in call.address call.size call.physical call.rights) call.bits
    else if nat_eq call.kind 1 then Unmap call.address
    else if nat_eq call.kind 2 then Protect call.address (rights_in call.rights)
    else if nat_eq call.kind 3 then Ask call.address
    else if nat_eq call.kind 4 then Remap call.address call.physical (rights_in call.rights)
    else if nat_eq call.kind 5 then Split call.address
    else if nat_eq call.kind 6 then Join call.address
    else if nat_eq call.kind 7 then Prune call.address
    else if nat_eq call.kind 8 then UnmapPart call.address call.physical call.bits
    else Collapse call.address call.physical (rights_in call.rights)

-- the planner that a struct of C keeps
abbrev pub planner_in : Plan → Planner
planner_in plan = record {
  target = target_at plan.way.phase plan.call;
  request = request_in plan.call;
  phase = phase_in plan.way.phase;
  level = plan.way.level;
  number = plan.frame;
  rights = rights_at plan.way.allowed;
  numbers = plan.met.numbers;
  words = plan.met.words;
  stop = plan.way.stop;
  base = plan.met.base;
  height = plan.way.height;
  below = plan.met.below;
  stores = record { items = take plan.store_count plan.stores };
}

-- how many frames are shown at most: on the first way down of an unmap those of a second one too
abbrev pub shows_left : Plan → ℕ
shows_left plan = plan.way.level + (if nat_eq plan.way.phase 0 then levels (depth_in plan.call.levels) else 0)

-- what a planner waits for in a phase
abbrev pub IsWaiting : Phase → Planner → Type 0
IsWaiting Descent planner = AwaitsWords planner
IsWaiting Search planner = AwaitsWords planner
IsWaiting Growth planner = AwaitsFrame planner
IsWaiting Division planner = AwaitsFrame planner
IsWaiting Ended planner = Unit {0}

-- the plan is as a call left it
pub record IsSound (plan : Plan) : Type 0 where
  pub room : plan.store_count ≤ MOST_STORES
  pub waits : IsWaiting (phase_in plan.way.phase) (planner_in plan)
