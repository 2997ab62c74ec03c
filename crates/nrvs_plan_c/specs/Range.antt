-- A range's planner that is kept in C's struct between two calls, and its runs in numbers.
use Rattle.std.specs.Prelude.{◌≡◌, ◌≢◌, ℕ, ◌+◌, ◌*◌, ◌^◌, ◌<◌, ◌≤◌, ◌⊎◌, ◌||◌, Bool, List, Option, nat_eq, nat_lt, if◌then◌else◌}
use Rattle.std.specs.Int.Bits.{bit_and}
use Rattle.vs_types.specs.Codes.{size_code}
use Rattle.vs_types.specs.Depth.{levels}
use Rattle.vs_types.specs.Page.{bytes_of}
use Rattle.vs_types.specs.Space.{Space}
use Rattle.vs_types.specs.declared.addresses.page.Size.{Size}
use Rattle.vs_walk.specs.Memory.{Memory}
use Rattle.vs_plan.specs.declared.plans.plan.TheConstants.{MOST_UNLINKED}
use Rattle.vs_plan.specs.declared.plans.planner.Phase.TheVariants.{Descent}
use Rattle.vs_plan.specs.declared.plans.request.Request.{Request}
use Rattle.vs_plan.specs.declared.plans.request.Request.TheVariants.{Map}
use Rattle.vs_plan.specs.declared.plans.target.Target.{Target}
use Rattle.vs_plan.specs.Premise.{IsPremise}
use Rattle.vs_plan.specs.Request.{address_of, request_fault}
use Rattle.vs_plan.specs.Shown.{IsShown}
use Rattle.vs_range.specs.declared.planner.RangePlanner.{RangePlanner}
use Rattle.vs_range.specs.declared.run.Forget.{Forget}
use Rattle.vs_range.specs.declared.run.Forget.TheVariants.{Nothing, Pages}
use Rattle.vs_range.specs.declared.run.Run as ranged
use Rattle.vs_range.specs.Planner.{are_pages, IsMap, IsRanged, IsRunNext, IsHarvestNext, IsAbsentFor, EndsBeyond, IsSeenPage, IsInRun, range_sees}
use Rattle.vs_range.specs.Run.{word_after}
use Rattle.nrvs_plan_c.specs.declared.records.codes.TheConstants.{ENDED}
use Rattle.nrvs_plan_c.specs.declared.records.kept.Target as targets
use Rattle.nrvs_plan_c.specs.declared.records.range.Run.{Run}
use Rattle.nrvs_plan_c.specs.Kept.{IsSound, page_in, phase_in, planner_in, request_in, size_in, target_in, target_of}
use Rattle.nrvs_plan_c.specs.Next.{IsPlanned, status_in}
use Rattle.nrvs_plan_c.specs.Status.{begun_status, target_status}

-- whether so many bytes are those of pages of the size of a code, of one at least; or the code means none
abbrev pub are_whole : ℕ → ℕ → Bool
are_whole size bytes = nat_lt 2 size || are_pages (size_in size) bytes

-- the status of a range as it begins: 10 where it goes beyond the last address, else that of the call on its first page
abbrev pub range_status : ℕ → ℕ → ℕ → ℕ
range_status base bytes status = if nat_lt (2 ^ 64) (base + bytes) then 10 else status

-- the status of a map over so many bytes as it begins: 11 where they are no whole pages, else that of the range
abbrev pub map_range_status : targets.Target → ℕ → ℕ → ℕ → ℕ → ℕ → ℕ → ℕ
map_range_status target base size physical rights bits bytes =
    if are_whole size bytes then range_status base bytes (target_status target.levels target.phys_bits
    (if nat_lt 2 size then 6 else if nat_lt 7 rights then 7
    else begun_status (request_fault (target_of target) (Map (page_in base size physical rights) bits))))
    else 11

-- the planner of the range
abbrev pub range_in : Run → RangePlanner
range_in run = record { planner = planner_in run.plan; base = run.base; bytes = run.bytes; alone = nat_eq run.own 1 }

-- the range is as a call left it
pub record IsSoundRange (run : Run) : Type 0 where
  pub plan : IsSound run.plan
  pub base : address_of (request_in run.plan.call) ≡ run.base
  pub kind : IsRanged (request_in run.plan.call)
  pub phase : 1 ≤ run.plan.way.phase

-- the words of how many frames it asks for at most
abbrev pub range_sees_in : Run → ℕ
range_sees_in run = range_sees (range_in run)

-- a range has begun: it waits for the words of the root, and what is kept is so in any memory, of which nothing was shown yet
pub record HasBegunRange (target : Target) (request : Request) (bytes : ℕ) (run : Run) : Type 0 where
  pub sound : IsSoundRange run
  pub waits : status_in (phase_in run.plan.way.phase) ≡ 32
  pub of_target : target_in run.plan.call ≡ target
  pub of_request : request_in run.plan.call ≡ request
  pub of_bytes : run.bytes ≡ bytes
  pub ends : run.base + run.bytes ≤ 2 ^ 64
  pub together : run.own ≡ 0
  pub descends : phase_in run.plan.way.phase ≡ Descent
  pub top : run.plan.way.level ≡ levels (target_in run.plan.call).depth
  pub shown : (memory : Memory) → IsShown memory (planner_in run.plan)

-- what is asked is kept
pub record KeepsRange (before after : Run) : Type 0 where
  pub call : after.plan.call ≡ before.plan.call
  pub base : after.base ≡ before.base
  pub bytes : after.bytes ≡ before.bytes

-- a status: 32 and 33 say what is waited for. A range has ended by 0 with a plan, 34 with a run, 35 with one that takes flags, 36 where no page
-- lies and 37 where one ends beyond the range. A run lies in its table, and a plan unlinks no more frames than there is room for
pub record IsRangeStatus (run : Run) (status : ℕ) : Type 0 where
  pub one : (status ≡ 0) ⊎ ((32 ≤ status) × (status ≤ 37))
  pub sees : status ≡ 32 → status_in (phase_in run.plan.way.phase) ≡ 32
  pub gives : status ≡ 33 → status_in (phase_in run.plan.way.phase) ≡ 33
  pub ended : status ≢ 32 → status ≢ 33 → run.plan.way.phase ≡ ENDED
  pub named : status ≡ 0 → run.plan.unlinked_count ≤ MOST_UNLINKED
  pub room : (status ≡ 34) ⊎ (status ≡ 35) → run.index + run.count ≤ 512

-- what the word of the page with this number becomes, by the numbers of a run
abbrev pub word_told : Run → ℕ → ℕ → ℕ
word_told run number word = bit_and word run.keep + run.first_word + number * run.step

-- what has to be forgotten, by its code
abbrev pub IsForgetTold : ℕ → Forget → Type 0
IsForgetTold code Nothing = code ≡ 0
IsForgetTold code (Pages base size count) = code ≡ 1

-- the numbers of the run are those of this one
pub record IsRunTold (run : Run) (made : ranged.Run) : Type 0 where
  pub frame : run.frame ≡ made.frame
  pub index : run.index ≡ made.index
  pub count : run.count ≡ made.count
  pub size : run.size ≡ size_code made.size
  pub words : (number word : ℕ) → word < 2 ^ 64 → word_told run number word ≡ word_after made.change number word
  pub flush : IsForgetTold run.flush made.forget
  pub covered : run.covered ≡ made.count * bytes_of made.size

-- of 32 and 33 what is kept is so in the memory; of all else what the planner of the range says is there, in numbers
pub record IsRangeNextOf (memory : Memory) (run : Run) (offered : List (Option ℕ)) (status : ℕ) : Type 0 where
  pub sees : status ≡ 32 → IsShown memory (planner_in run.plan)
  pub gives : status ≡ 33 → IsShown memory (planner_in run.plan)
  pub planned : status ≡ 0 → IsPlanned (target_in run.plan.call) (request_in run.plan.call) memory run.plan offered
  pub runs : status ≡ 34 → (made : ranged.Run) × IsRunNext memory (range_in run) made × IsRunTold run made
  pub harvests : status ≡ 35 → (made : ranged.Run) × IsHarvestNext memory (range_in run) made × IsRunTold run made
  pub absent : status ≡ 36 → IsAbsentFor memory (range_in run) run.covered
  pub beyond : status ≡ 37 → (size : Size) × (run.size ≡ size_code size) × ((IsMap (request_in run.plan.call) → ⊥) × ((space : Space)
      → IsPremise (target_in run.plan.call).depth memory (target_in run.plan.call).root run.base space
      → EndsBeyond space run.base run.bytes size))

-- the status of a run, or of one that takes flags
abbrev pub IsRunStatus : ℕ → Type 0
IsRunStatus status = (status ≡ 34) ⊎ (status ≡ 35)

-- what became of a range that was shown these words. A page that is seen at its base is named, by 37 and its size, where it ends beyond the range.
-- Otherwise it is dealt with in a run, not alone; and so is a page that a map has room for
pub record TakesPageOf (range : RangePlanner) (words : List ℕ) (run : Run) (status : ℕ) : Type 0 where
  pub beyond : (size : Size) → IsSeenPage range words size → (IsMap range.planner.request → ⊥) → range.bytes < bytes_of size
      → (status ≡ 37) × (run.size ≡ size_code size)
  pub within : (size : Size) → IsSeenPage range words size → bytes_of size ≤ range.bytes → IsInRun range words range.planner.request
      → IsRunStatus status
  pub mapped : IsMap range.planner.request → range.planner.phase ≡ Descent → IsInRun range words range.planner.request → IsRunStatus status
