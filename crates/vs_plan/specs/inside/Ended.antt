-- Where a way ends. No public clause cites it.
use Rattle.std.specs.Prelude.{◌≡◌, ◌≢◌, ◌⊎◌, ℕ, ◌+◌, ◌^◌, ◌%◌, ◌<◌, ◌≤◌, List, [], Some, None, slice_index, length}
use Rattle.std.specs.FinMap as finite
use Rattle.vs_types.specs.Depth.{levels, index_at}
use Rattle.vs_types.specs.Entry.{meaning, size_at}
use Rattle.vs_types.specs.Page.{intersection}
use Rattle.vs_types.specs.declared.addresses.page.Rights.{Rights}
use Rattle.vs_types.specs.declared.entries.entry.Meaning.TheVariants as entry
use Rattle.vs_types.specs.Space.{Space}
use Rattle.vs_types.specs.declared.addresses.page.Size.{Size}
use Rattle.vs_walk.specs.Memory.{Memory}
use Rattle.vs_space.specs.Held.{word_at}
use Rattle.vs_space.specs.Path.{table_in}
use Rattle.vs_plan.specs.declared.plans.plan.Plan.{Plan}
use Rattle.vs_plan.specs.declared.plans.plan.Reply.{Reply}
use Rattle.vs_plan.specs.declared.plans.plan.Step.{Step}
use Rattle.vs_plan.specs.declared.plans.plan.Step.TheVariants as steps
use Rattle.vs_plan.specs.declared.plans.plan.Flush.TheVariants as flushes
use Rattle.vs_plan.specs.declared.plans.plan.Store.{Store}
use Rattle.vs_plan.specs.declared.plans.planner.Planner.{Planner}
use Rattle.vs_plan.specs.declared.plans.request.Request.{Request}
use Rattle.vs_plan.specs.declared.plans.request.Request.TheVariants.{Map, Unmap, Protect, Ask, Remap, Split, Join, Prune, UnmapPart, Collapse}
use Rattle.vs_types.specs.Bits.{page_word, bits_in, flagged}
use Rattle.vs_plan.specs.Changes.{larger}
use Rattle.vs_plan.specs.Premise.{IsPremise}
use Rattle.vs_plan.specs.Request.{IsRequest, address_of, lowest_of}
use Rattle.vs_plan.specs.Answered.{Follows, IsLike}
use Rattle.vs_plan.specs.Right.{IsRight}
use Rattle.vs_plan.specs.Shown.{HasMet}
use Rattle.vs_plan.specs.Way.{IsWay}

-- the planner is at the end of the way, at a level that there is
pub record IsAtEnd (planner : Planner) : Type 0 where
  pub request : IsRequest planner.target planner.request
  pub some : 1 ≤ planner.level
  pub few : planner.level ≤ levels planner.target.depth
  pub lowest : lowest_of planner.request ≤ planner.level
  pub stop : planner.stop ≤ levels planner.target.depth

-- the way has ended at this word of the table
pub record HasEnded (memory : Memory) (planner : Planner) (word : ℕ) : Type 0 where
  pub way : IsWay planner.target.depth memory planner.target.root (address_of planner.request) planner.level planner.number planner.rights
  pub word_is : word_at memory planner.number (index_at planner.level (address_of planner.request)) ≡ Some word
  pub last : slice_index planner.words planner.level ≡ word
  pub ends : lowest_of planner.request < planner.level → table_in (Some (meaning planner.level word)) ≡ None
  pub met : HasMet memory planner planner.level

-- the plan is right for each memory in which the way has ended so
abbrev pub IsRightAt : Planner → ℕ → Plan → Type 0
IsRightAt planner word plan = (memory : Memory) → HasEnded memory planner word → (space : Space)
    → IsPremise planner.target.depth memory planner.target.root (address_of planner.request) space
    → IsRight planner.target planner.request memory space [] plan

-- the same, where the words of the table are shown too
abbrev pub IsRightWith : Planner → ℕ → List ℕ → Plan → Type 0
IsRightWith planner word words plan = (memory : Memory) → HasEnded memory planner word → finite.get memory planner.number ≡ Some words
    → (space : Space) → IsPremise planner.target.depth memory planner.target.root (address_of planner.request) space
    → IsRight planner.target planner.request memory space [] plan

-- a request that is answered by the page of its address
abbrev pub IsNoMap : Request → Type 0
IsNoMap (Map page bits) = ⊥
IsNoMap (Unmap base) = Unit {0}
IsNoMap (Protect base rights) = Unit {0}
IsNoMap (Ask address) = Unit {0}
IsNoMap (Remap base phys rights) = Unit {0}
IsNoMap (Split base) = Unit {0}
IsNoMap (Join base) = Unit {0}
IsNoMap (Prune address) = ⊥
IsNoMap (UnmapPart base first count) = Unit {0}
IsNoMap (Collapse base phys rights) = Unit {0}

-- the end, with a plan
abbrev pub IsEnd : Step → Type 0
IsEnd (steps.See number) = ⊥
IsEnd steps.Give = ⊥
IsEnd (steps.Planned plan) = Unit {0}

-- a plan that changes nothing
pub record ChangesNothing (reply : Reply) (bits : ℕ) (plan : Plan) : Type 0 where
  pub reply_is : plan.reply ≡ reply
  pub bits_are : plan.bits ≡ bits
  pub fill : plan.fill ≡ None
  pub stores : plan.stores.items ≡ []
  pub flush : plan.flush ≡ flushes.Nothing
  pub unlinked : plan.unlinked.items ≡ []

-- the end, with a plan that changes nothing
abbrev pub IsPlanned : Reply → Step → Type 0
IsPlanned reply (steps.See number) = ⊥
IsPlanned reply steps.Give = ⊥
IsPlanned reply (steps.Planned plan) = ChangesNothing reply 0 plan

-- new tables were filled up to the level of the table to which they are linked
pub record IsFilledUp (planner : Planner) : Type 0 where
  pub request : IsRequest planner.target planner.request
  pub some : 1 ≤ planner.level
  pub few : planner.level ≤ levels planner.target.depth
  pub room : length planner.stores.items < 5
  pub below : planner.below < 2 ^ 40
  pub height : planner.height ≡ planner.level
  pub lowest : lowest_of planner.request < planner.level

-- the first word of a frame that is present
pub record IsFirstPresent (words : List ℕ) (index : ℕ) : Type 0 where
  pub within : index < 512
  pub present : slice_index words index % 2 ≢ 0
  pub before : (i : ℕ) → i < index → slice_index words i % 2 ≡ 0

-- the first entry of a table, behind its first one, that doesn't follow on from that
pub record IsFirstApart (first : ℕ) (words : List ℕ) (size : Size) (index : ℕ) : Type 0 where
  pub within : index < 512
  pub apart : Follows size first index (slice_index words index) → ⊥
  pub before : (i : ℕ) → 1 ≤ i → i < index → Follows size first i (slice_index words i)

-- the first entry of a table, behind its first one, that isn't like that
pub record IsFirstUnlike (first : ℕ) (words : List ℕ) (size : Size) (index : ℕ) : Type 0 where
  pub within : index < 512
  pub unlike : IsLike size first (slice_index words index) → ⊥
  pub before : (i : ℕ) → 1 ≤ i → i < index → IsLike size first (slice_index words i)

-- the store of one page's entry in the place of the link to the table at the end of the way, whose first entry is this word; where the link
-- is none, its rights are any
pub record IsWholeStore (planner : Planner) (base phys : ℕ) (own : Rights) (word : ℕ) (store : Store) : Type 0 where
  pub allowed : Rights
  pub leads : (number : ℕ) (other : Rights) → meaning (planner.level + 1) (slice_index planner.words (planner.level + 1)) ≡ entry.Table number other
      → allowed ≡ other
  pub store_is : store ≡ record {
    frame = slice_index planner.numbers (planner.level + 1);
    index = index_at (planner.level + 1) base;
    old = slice_index planner.words (planner.level + 1);
    new = page_word (record { base = base; size = larger (size_at planner.level); rights = intersection allowed own; phys = phys })
        (flagged (bits_in (size_at planner.level) word));
  }

-- a request that divides a page: into all its parts, or into those outside of a gap
abbrev pub DividesAround : Request → ℕ → ℕ → ℕ → Type 0
DividesAround request base gap count = ((request ≡ Split base) × (gap ≡ 0) × (count ≡ 0)) ⊎ (request ≡ UnmapPart base gap count)
