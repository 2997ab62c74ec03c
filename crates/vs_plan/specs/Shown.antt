-- What a planner has seen of a memory, and what its next step means.
use Rattle.std.specs.Prelude.{◌≡◌, ◌≢◌, ℕ, suc, ◌+◌, ◌-◌, ◌%◌, ◌<◌, ◌≤◌, List, All, Option, Some, Contains, map, slice_index, [], ◌∷◌}
use Rattle.std.specs.FinMap as finite
use Rattle.vs_types.specs.Depth.{levels, table_bytes, index_at, IsCanonical}
use Rattle.vs_types.specs.Entry.{meaning, size_at}
use Rattle.vs_types.specs.Page.{level_of, bytes_of, intersection}
use Rattle.vs_types.specs.Space.{Space}
use Rattle.vs_types.specs.declared.addresses.depth.Depth.{Depth}
use Rattle.vs_types.specs.declared.addresses.page.Page.{Page}
use Rattle.vs_types.specs.declared.addresses.page.Rights.{Rights}
use Rattle.vs_types.specs.declared.entries.entry.Meaning.TheVariants as entry
use Rattle.vs_walk.specs.Memory.{Memory}
use Rattle.vs_walk.specs.Walk.{walk, walk_from}
use Rattle.vs_walk.specs.declared.walk.Walk.TheVariants.{NotMapped, Mapped}
use Rattle.vs_space.specs.Held.{word_at}
use Rattle.vs_space.specs.Path.{table_at, SamePath}
use Rattle.vs_plan.specs.declared.plans.plan.Step.{Step}
use Rattle.vs_plan.specs.declared.plans.plan.Step.TheVariants as steps
use Rattle.vs_plan.specs.declared.plans.plan.Store.{Store}
use Rattle.vs_plan.specs.declared.plans.planner.Phase.{Phase}
use Rattle.vs_plan.specs.declared.plans.planner.Phase.TheVariants as phases
use Rattle.vs_plan.specs.declared.plans.planner.Planner.{Planner}
use Rattle.vs_plan.specs.declared.plans.request.Request.TheVariants.{Map, Unmap}
use Rattle.vs_plan.specs.Planner.{Divides}
use Rattle.vs_plan.specs.Premise.{IsPremise, IsSpare}
use Rattle.vs_plan.specs.Request.{address_of}
use Rattle.vs_plan.specs.Right.{IsRight, IsWritten}
use Rattle.vs_plan.specs.Stores.{stored_all, FindTheirWords}
use Rattle.vs_plan.specs.Target.{frames_end, highest_link}
use Rattle.vs_plan.specs.Way.{IsWay}

-- ---- on the way down

-- a table on the way, and the word of its entry
pub record IsTableMet (depth : Depth) (memory : Memory) (root address level number word : ℕ) : Type 0 where
  pub rights : Rights
  pub way : IsWay depth memory root address level number rights
  pub word_is : word_at memory number (index_at level address) ≡ Some word

-- a table whose words but one are 0
abbrev pub HasOneWord : Memory → ℕ → ℕ → Type 0
HasOneWord memory number index = (i : ℕ) → i < 512 → i ≢ index → word_at memory number i ≡ Some 0

-- a table has another word that isn't 0
pub record HasOtherWord (memory : Memory) (number index : ℕ) : Type 0 where
  pub other : ℕ
  pub apart : other ≢ index
  pub word : ℕ
  pub there : word_at memory number other ≡ Some word
  pub some : word ≢ 0

-- the tables on the way from the root down to this level are as they were met, and those below the one that stays have no other word
pub record HasMet (memory : Memory) (planner : Planner) (from : ℕ) : Type 0 where
  pub tables : (level : ℕ) → from ≤ level → level ≤ levels planner.target.depth
      → IsTableMet planner.target.depth memory planner.target.root (address_of planner.request) level (slice_index planner.numbers level)
      (slice_index planner.words level)
  pub alone : (level : ℕ) → from ≤ level → level < planner.stop
      → HasOneWord memory (slice_index planner.numbers level) (index_at level (address_of planner.request))
  pub stop : planner.stop ≤ highest_link planner.target
  pub busy : (base : ℕ) → planner.request ≡ Unmap base → planner.stop < highest_link planner.target
      → (from ≤ planner.stop) × HasOtherWord memory (slice_index planner.numbers planner.stop) (index_at planner.stop (address_of planner.request))

-- the planner has come down to a table on the way of its address, whose tables are as they were met
pub record IsDescended (memory : Memory) (planner : Planner) : Type 0 where
  pub way : IsWay planner.target.depth memory planner.target.root (address_of planner.request) planner.level planner.number planner.rights
  pub met : HasMet memory planner (planner.level + 1)

-- ---- below the level of a page, towards the first page there

-- below the level of a page that is to be mapped, the planner looks for a page or a word that is there
pub record IsSearched (memory : Memory) (planner : Planner) : Type 0 where
  pub page : Page
  pub bits : ℕ
  pub request : planner.request ≡ Map page bits
  pub below : planner.level < level_of page.size
  pub rights : Rights
  pub way : IsWay planner.target.depth memory planner.target.root planner.base planner.level planner.number rights
  pub canonical : IsCanonical planner.target.depth planner.base
  pub from : page.base ≤ planner.base
  pub same_path : SamePath (levels planner.target.depth) (level_of page.size) page.base planner.base
  pub aligned : planner.base % table_bytes planner.level ≡ 0
  pub before : (b : ℕ) → IsCanonical planner.target.depth b → page.base ≤ b → b < planner.base
      → walk planner.target.depth memory planner.target.root b ≡ NotMapped

-- ---- new tables, from the lowest up

-- the frames of stores
abbrev pub frames_of : List Store → List ℕ
frames_of stores = map (λ store. store.frame) stores

-- memories in which these frames are the same
abbrev pub AreSameIn : List ℕ → Memory → Memory → Type 0
AreSameIn frames m m' = (number : ℕ) → Contains frames number → finite.get m' number ≡ finite.get m number

-- below this table of this level lies the page and nothing else
abbrev pub LeadsToPage : Depth → Memory → Page → ℕ → ℕ → Type 0
LeadsToPage depth memory page level number = (b : ℕ) (rights : Rights)
    → (SamePath level (level_of page.size) page.base b
    → walk_from memory level number rights b ≡ Mapped (page.phys + b % bytes_of page.size) page.size (intersection rights page.rights))
    × ((SamePath level (level_of page.size) page.base b → ⊥) → walk_from memory level number rights b ≡ NotMapped)

-- the tables to which this table of this level leads are of these frames, each a table of one level, on the path of the base
abbrev pub IsLone : Memory → ℕ → ℕ → ℕ → List ℕ → Type 0
IsLone memory base top number frames = (level b q : ℕ) → table_at top memory number level b ≡ Some q
    → Contains frames q × SamePath top (suc level) base b × ((other c : ℕ) → table_at top memory number other c ≡ Some q → other ≡ level)

-- the frame of the last store, or this one
abbrev pub last_frame : ℕ → List Store → ℕ
last_frame frame [] = frame
last_frame frame (store ∷ stores) = last_frame store.frame stores

-- the last store is into this frame
abbrev pub EndsAt : ℕ → List Store → Type 0
EndsAt below [] = Unit {0}
EndsAt below (store ∷ stores) = last_frame store.frame stores ≡ below

-- new tables up to a height, filled by stores, hang together whatever becomes of the other frames
pub record AreFilled (depth : Depth) (memory : Memory) (root : ℕ) (page : Page) (bits height below : ℕ) (stores : List Store) : Type 0 where
  pub found : FindTheirWords memory stores
  pub spare : All (λ (store : Store). IsSpare depth memory root store.frame) stores
  pub written : IsWritten (Map page bits) stores
  pub hang : level_of page.size < height → Contains (frames_of stores) below
      × ((m : Memory) → AreSameIn (frames_of stores) (stored_all memory stores) m → LeadsToPage depth m page (height - 1) below)
  pub ends : EndsAt below stores
  pub absent : All (λ (store : Store). store.old % 2 ≡ 0) stores
  pub changing : All (λ (store : Store). store.old ≢ store.new) stores
  pub lone : level_of page.size < height → (m : Memory) → AreSameIn (frames_of stores) (stored_all memory stores) m
      → IsLone m page.base (height - 1) below (frames_of stores)

-- the planner of a map has new tables up to a height, and asks for the frame of the next one
pub record IsGrown (memory : Memory) (planner : Planner) : Type 0 where
  pub page : Page
  pub bits : ℕ
  pub request : planner.request ≡ Map page bits
  pub way : IsWay planner.target.depth memory planner.target.root page.base planner.level planner.number planner.rights
  pub word_is : word_at memory planner.number (index_at planner.level page.base) ≡ Some (slice_index planner.words planner.level)
  pub absent : meaning planner.level (slice_index planner.words planner.level) ≡ entry.Absent
  pub allows : intersection planner.rights page.rights ≡ page.rights
  pub within : All (λ (store : Store). store.frame < frames_end planner.target) planner.stores.items
  pub filled : AreFilled planner.target.depth memory planner.target.root page bits planner.height planner.below planner.stores.items

-- ---- at the entry of a page that is to be divided

-- the planner of a split, or of an unmap of parts, has found the page
pub record IsDivided (memory : Memory) (planner : Planner) : Type 0 where
  pub base : ℕ
  pub place : address_of planner.request ≡ base
  pub divides : Divides planner.request
  pub way : IsWay planner.target.depth memory planner.target.root base planner.level planner.number planner.rights
  pub word_is : word_at memory planner.number (index_at planner.level base) ≡ Some (slice_index planner.words planner.level)
  pub page : (phys : ℕ) × (own : Rights) × (meaning planner.level (slice_index planner.words planner.level) ≡ entry.Leaf phys own)
  pub aligned : base % bytes_of (size_at planner.level) ≡ 0
  pub large : 1 < planner.level

-- ---- all of it

-- what the planner was shown, in each phase
abbrev pub IsShownIn : Phase → Memory → Planner → Type 0
IsShownIn phases.Descent memory planner = IsDescended memory planner
IsShownIn phases.Search memory planner = IsSearched memory planner
IsShownIn phases.Growth memory planner = IsGrown memory planner
IsShownIn phases.Division memory planner = IsDivided memory planner
IsShownIn phases.Ended memory planner = Unit {0}

-- what the planner keeps is so in the memory
abbrev pub IsShown : Memory → Planner → Type 0
IsShown memory planner = IsShownIn planner.phase memory planner

-- the next step, by what was shown of the memory and which frames were offered: a plan is right for each space that the memory translates as
abbrev pub IsNext : Memory → Planner → List (Option ℕ) → Step → Type 0
IsNext memory planner offered (steps.See number) = IsShown memory planner
IsNext memory planner offered steps.Give = IsShown memory planner
IsNext memory planner offered (steps.Planned plan) = (space : Space)
    → IsPremise planner.target.depth memory planner.target.root (address_of planner.request) space
    → IsRight planner.target planner.request memory space offered plan
