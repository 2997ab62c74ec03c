-- What a planner waits for.
use Rattle.std.specs.Prelude.{◌≡◌, ℕ, suc, ◌+◌, ◌-◌, ◌^◌, ◌<◌, ◌≤◌, map, length, Contains, List}
use Rattle.vs_types.specs.Depth.{levels}
use Rattle.vs_walk.specs.Memory.{Memory}
use Rattle.vs_plan.specs.declared.plans.plan.Step.{Step}
use Rattle.vs_plan.specs.declared.plans.plan.Step.TheVariants as steps
use Rattle.vs_plan.specs.declared.plans.plan.Store.{Store}
use Rattle.vs_plan.specs.declared.plans.planner.Asks.{Asks}
use Rattle.vs_plan.specs.declared.plans.planner.Asks.TheVariants as asks
use Rattle.vs_plan.specs.declared.plans.planner.Phase.{Phase}
use Rattle.vs_plan.specs.declared.plans.planner.Phase.TheVariants as phases
use Rattle.vs_plan.specs.declared.plans.planner.Planner.{Planner}
use Rattle.vs_types.specs.declared.addresses.page.Page.{Page}
use Rattle.vs_plan.specs.declared.plans.request.Request.{Request}
use Rattle.vs_plan.specs.declared.plans.request.Request.TheVariants.{Map, Unmap, Protect, Ask, Remap, Split, Join, Prune, UnmapPart, Collapse}
use Rattle.vs_plan.specs.Request.{IsRequest, lowest_of}
use Rattle.vs_plan.specs.Premise.{IsSpare}
use Rattle.vs_plan.specs.Target.{frames_end}

-- in which phases words are waited for
abbrev pub Sees : Phase → Type 0
Sees phases.Descent = Unit {0}
Sees phases.Search = Unit {0}
Sees phases.Growth = ⊥
Sees phases.Division = ⊥
Sees phases.Ended = ⊥

-- the planner waits for the words of its frame, which lies within the physical addresses
pub record AwaitsWords (planner : Planner) : Type 0 where
  pub request : IsRequest planner.target planner.request
  pub phase : Sees planner.phase
  pub some : 1 ≤ planner.level
  pub few : planner.level ≤ levels planner.target.depth
  pub lowest : planner.phase ≡ phases.Descent → lowest_of planner.request ≤ planner.level
  pub within : planner.number < frames_end planner.target
  pub stop : planner.stop ≤ levels planner.target.depth

-- the planner of a map waits for the frame of a new table
pub record AwaitsGrowth (planner : Planner) : Type 0 where
  pub request : IsRequest planner.target planner.request
  pub phase : planner.phase ≡ phases.Growth
  pub lowest : lowest_of planner.request ≤ planner.height
  pub room : planner.height < planner.level
  pub few : planner.level ≤ levels planner.target.depth
  pub stores : length planner.stores.items + lowest_of planner.request ≡ planner.height
  pub below : planner.below < 2 ^ 40
  pub is_map : (page : Page) × (bits : ℕ) × (planner.request ≡ Map page bits)

-- the requests that put parts in the place of a page
abbrev pub Divides : Request → Type 0
Divides (Map page bits) = ⊥
Divides (Unmap base) = ⊥
Divides (Protect base rights) = ⊥
Divides (Ask address) = ⊥
Divides (Remap base phys rights) = ⊥
Divides (Split base) = Unit {0}
Divides (Join base) = ⊥
Divides (Prune address) = ⊥
Divides (UnmapPart base first count) = Unit {0}
Divides (Collapse base phys rights) = ⊥

-- the planner of a split, or of an unmap of parts, waits for the frame of the table of the page's parts
pub record AwaitsDivision (planner : Planner) : Type 0 where
  pub request : IsRequest planner.target planner.request
  pub phase : planner.phase ≡ phases.Division
  pub some : 1 ≤ planner.level
  pub few : planner.level ≤ levels planner.target.depth
  pub next : suc planner.height ≡ planner.level
  pub divides : Divides planner.request

-- in this phase the planner waits for a frame
abbrev pub AwaitsFrameIn : Phase → Planner → Type 0
AwaitsFrameIn phases.Descent planner = ⊥
AwaitsFrameIn phases.Search planner = ⊥
AwaitsFrameIn phases.Growth planner = AwaitsGrowth planner
AwaitsFrameIn phases.Division planner = AwaitsDivision planner
AwaitsFrameIn phases.Ended planner = ⊥

-- the planner waits for a frame whose words are all 0
abbrev pub AwaitsFrame : Planner → Type 0
AwaitsFrame planner = AwaitsFrameIn planner.phase planner

-- the planner waits for what the step says
abbrev pub Awaits : Planner → Step → Type 0
Awaits planner (steps.See number) = AwaitsWords planner × (planner.number ≡ number)
Awaits planner steps.Give = AwaitsFrame planner
Awaits planner (steps.Planned plan) = planner.phase ≡ phases.Ended

-- the frames that were given, and that hold new tables
abbrev pub frames_given : Planner → List ℕ
frames_given planner = map (λ (store : Store). store.frame) planner.stores.items

-- if it waits for a frame, these were given
abbrev pub HasGiven : Planner → List ℕ → Step → Type 0
HasGiven planner frames (steps.See number) = Unit {0}
HasGiven planner frames steps.Give = frames_given planner ≡ frames
HasGiven planner frames (steps.Planned plan) = Unit {0}

-- what the planner waits for, as `asks` answers it
abbrev asked_in : Phase → ℕ → Asks
asked_in phases.Descent number = asks.Words number
asked_in phases.Search number = asks.Words number
asked_in phases.Growth number = asks.Frame
asked_in phases.Division number = asks.Frame
asked_in phases.Ended number = asks.Nothing

-- what the planner waits for
abbrev pub asked_by : Planner → Asks
asked_by planner = asked_in planner.phase planner.number

-- how many frames it asks for the words of at most
abbrev pub sees_left : Planner → Step → ℕ
sees_left planner (steps.See number) = planner.level
sees_left planner steps.Give = 0
sees_left planner (steps.Planned plan) = 0

-- how many frames it asks for
abbrev pub gives_left : Planner → Step → ℕ
gives_left planner (steps.See number) = levels planner.target.depth
gives_left planner steps.Give = planner.level - planner.height
gives_left planner (steps.Planned plan) = 0

-- a frame that may be given: it is spare, and wasn't given before
pub record IsSpareFor (memory : Memory) (planner : Planner) (number : ℕ) : Type 0 where
  pub spare : IsSpare planner.target.depth memory planner.target.root number
  pub new : Contains (frames_given planner) number → ⊥
