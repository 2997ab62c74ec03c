-- Plans one after another, before one flush.
use Rattle.std.specs.Prelude.{◌≡◌, ℕ, ◌⊎◌, Bool, true, false, List, [], ◌∷◌, ◌++◌, Contains, Option, if◌then◌else◌}
use Rattle.std.specs.FinMap as finite
use Rattle.vs_types.specs.Space.{Space}
use Rattle.vs_types.specs.declared.addresses.depth.Depth.{Depth}
use Rattle.vs_walk.specs.Memory.{Memory}
use Rattle.vs_walk.specs.Walk.{walk}
use Rattle.vs_walk.specs.declared.walk.Walk.{Walk}
use Rattle.vs_space.specs.Flags.{AreSameButFlags}
use Rattle.vs_plan.specs.declared.plans.plan.Flush.{Flush}
use Rattle.vs_plan.specs.declared.plans.plan.Flush.TheVariants.{Nothing, Page, PageAndTables, Range}
use Rattle.vs_plan.specs.declared.plans.plan.Plan.{Plan}
use Rattle.vs_plan.specs.declared.plans.request.Request.{Request}
use Rattle.vs_plan.specs.declared.plans.target.Target.{Target}
use Rattle.vs_plan.specs.Flushed.{while_stored}
use Rattle.vs_plan.specs.Other.{HasSameTables}
use Rattle.vs_plan.specs.Premise.{IsPremise}
use Rattle.vs_plan.specs.Processor.{Kept, IsDropped, Moment, Is, Flushes}
use Rattle.vs_plan.specs.Request.{address_of}
use Rattle.vs_plan.specs.Answered.{space_after}
use Rattle.vs_plan.specs.Right.{IsRight, written_frames, begun, ended}

-- a call that was planned: what was asked, which frames were offered, the memory as it was then, and the plan
pub record Call : Type 0 where
  pub request : Request
  pub offered : List (Option ℕ)
  pub memory : Memory
  pub plan : Plan

-- before a plan the memory has changed only where no way leads. These frames, which are unlinked, are as they were, and the plan writes into none
-- of them. What a plan asks of the memory holds, and it is right
pub record IsRightThen (target : Target) (memory : Memory) (space : Space) (gone : List ℕ) (call : Call) : Type 0 where
  pub tables : HasSameTables target.depth target.root memory call.memory
  pub stays : (number : ℕ) → Contains gone number → finite.get call.memory number ≡ finite.get memory number
  pub spared : (number : ℕ) → Contains gone number → Contains (written_frames call.plan.fill call.plan.stores.items) number → ⊥
  pub premise : IsPremise target.depth call.memory target.root (address_of call.request) space
  pub right : IsRight target call.request call.memory space call.offered call.plan

-- before a plan: since the plan before it processors may have set flags in entries, or a caller cleared them, in frames that are unlinked too;
-- but for that it is right then
pub record IsRightButFlags (target : Target) (memory : Memory) (space : Space) (gone : List ℕ) (call : Call) : Type 0 where
  pub flagged : Memory
  pub flags : AreSameButFlags memory flagged
  pub right : IsRightThen target flagged space gone call

-- plans are right one after another, each where those before it have left the memory, flags apart, and the space; these frames were unlinked
-- before the first
abbrev pub AreRight : Target → Memory → Space → List ℕ → List Call → Type 0
AreRight target memory space gone [] = Unit {0}
AreRight target memory space gone (call ∷ calls) =
    IsRightButFlags target memory space gone call
    × AreRight target (ended call.memory call.plan) (space_after target call.request space call.plan.reply) (call.plan.unlinked.items ++ gone) calls

-- the memory after all plans
abbrev pub ended_all : Memory → List Call → Memory
ended_all memory [] = memory
ended_all memory (call ∷ calls) = ended_all (ended call.memory call.plan) calls

-- the space after all plans
abbrev pub space_after_all : Target → Space → List Call → Space
space_after_all target space [] = space
space_after_all target space (call ∷ calls) = space_after_all target (space_after target call.request space call.plan.reply) calls

-- the frames that they unlink
abbrev pub unlinked_by : List Call → List ℕ
unlinked_by [] = []
unlinked_by (call ∷ calls) = call.plan.unlinked.items ++ unlinked_by calls

-- the moments while the stores of all are made, after earlier ones
abbrev pub while_planned : List Call → List Moment → List Moment
while_planned [] earlier = earlier
while_planned (call ∷ calls) earlier = while_planned calls (while_stored (begun call.memory call.plan) call.plan.stores.items earlier)

-- and then these flushes
abbrev pub flushed_by : List Flush → List Moment → List Moment
flushed_by [] moments = moments
flushed_by (flush ∷ flushes) moments = flushed_by flushes (Flushes flush ∷ moments)

-- one of the flushes drops what is kept
abbrev pub IsDroppedByOne : List Flush → Kept → Type 0
IsDroppedByOne [] kept = ⊥
IsDroppedByOne (flush ∷ flushes) kept = IsDropped flush kept ⊎ IsDroppedByOne flushes kept

-- what the flush of a plan drops, one of these drops
abbrev pub HaveAll : List Flush → List Call → Type 0
HaveAll flushes [] = Unit {0}
HaveAll flushes (call ∷ calls) = ((kept : Kept) → IsDropped call.plan.flush kept → IsDroppedByOne flushes kept) × HaveAll flushes calls

-- ---- reads between the flushes

-- and then these flushes, while the memory is this one, which is read between them and after the last
abbrev pub flushed_while : Memory → List Flush → List Moment → List Moment
flushed_while memory [] moments = moments
flushed_while memory (flush ∷ flushes) moments = flushed_while memory flushes (Is memory ∷ Flushes flush ∷ moments)

-- a flush drops all that is kept of tables
abbrev pub drops_tables : Flush → Bool
drops_tables Nothing = false
drops_tables (Page base size) = false
drops_tables (PageAndTables base size) = true
drops_tables (Range base size) = true

-- the flushes from the first one on that drops what is kept of tables; none, if none does
abbrev pub from_tables : List Flush → List Flush
from_tables [] = []
from_tables (flush ∷ flushes) = if drops_tables flush then flush ∷ flushes else from_tables flushes

-- the flushes that count for a plan with this flush, and for those after it. If it drops what is kept of tables, one may have been unlinked: until
-- that is dropped a processor may read the pages of that table again
abbrev pub that_count : Flush → List Flush → List Flush
that_count flush flushes = if drops_tables flush then from_tables flushes else flushes

-- what the flush of a plan drops, one of those that count for it drops
abbrev pub HaveAllInOrder : List Flush → List Call → Type 0
HaveAllInOrder flushes [] = Unit {0}
HaveAllInOrder flushes (call ∷ calls) =
    ((kept : Kept) → IsDropped call.plan.flush kept → IsDroppedByOne (that_count call.plan.flush flushes) kept)
    × HaveAllInOrder (that_count call.plan.flush flushes) calls

-- the plans' own flushes, one after another
abbrev pub flushes_of : List Call → List Flush
flushes_of [] = []
flushes_of (call ∷ calls) = call.plan.flush ∷ flushes_of calls

-- ---- accesses

-- an access finds what a walk finds before these plans, or after one of them
abbrev pub FindsOneOf : Depth → ℕ → Memory → List Call → ℕ → Walk → Type 0
FindsOneOf depth root memory [] address end = end ≡ walk depth memory root address
FindsOneOf depth root memory (call ∷ calls) address end =
    (end ≡ walk depth memory root address) ⊎ FindsOneOf depth root (ended call.memory call.plan) calls address end
