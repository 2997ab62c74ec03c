-- What the planner of a range waits for, and what its next step means.
use Rattle.std.specs.Prelude.{◌≡◌, ◌≢◌, ℕ, ◌+◌, ◌-◌, ◌*◌, ◌%◌, ◌^◌, ◌<◌, ◌≤◌, ◌⊎◌, Bool, false, List, [], All, Option, Some, cond, min, nat_lt, not, slice_index, unwrap_or}
use Rattle.std.specs.Prelude.{◌&&◌, ◌==◌, if◌then◌else◌}
use Rattle.std.specs.FinMap as finite
use Rattle.vs_types.specs.Entry.{meaning}
use Rattle.vs_types.specs.Depth.{entry_bytes, index_at, levels, table_bytes, IsCanonical}
use Rattle.vs_types.specs.Page.{level_of, bytes_of, intersection}
use Rattle.vs_types.specs.Space.{Space, page_at}
use Rattle.vs_types.specs.declared.addresses.page.Page.{Page}
use Rattle.vs_types.specs.declared.addresses.page.Rights.{Rights}
use Rattle.vs_types.specs.declared.addresses.page.Size.{Size}
use Rattle.vs_types.specs.declared.entries.entry.Meaning.TheVariants as entry
use Rattle.vs_walk.specs.Memory.{Memory}
use Rattle.vs_walk.specs.Walk.{walk}
use Rattle.vs_walk.specs.declared.walk.Walk.TheVariants.{NotMapped}
use Rattle.vs_plan.specs.declared.plans.plan.Step.{Step}
use Rattle.vs_plan.specs.declared.plans.plan.Step.TheVariants as steps
use Rattle.vs_plan.specs.declared.plans.planner.Phase.TheVariants.{Descent}
use Rattle.vs_plan.specs.declared.plans.request.BadRequest.{BadRequest}
use Rattle.vs_plan.specs.declared.plans.request.BadRequest.TheVariants.{NotCanonical, Unaligned}
use Rattle.vs_plan.specs.declared.plans.request.Request.{Request}
use Rattle.vs_plan.specs.declared.plans.request.Request.TheVariants.{Map, Unmap, Protect, Ask}
use Rattle.vs_plan.specs.declared.plans.target.Target.{Target}
use Rattle.vs_types.specs.Bits.{page_word, unflagged}
use Rattle.vs_plan.specs.Planner.{AwaitsWords, AwaitsFrame, frames_given}
use Rattle.vs_plan.specs.Premise.{IsPremise}
use Rattle.vs_plan.specs.Processor.{page_number, Translation}
use Rattle.vs_plan.specs.Request.{IsRequest, address_of, lowest_of, request_fault}
use Rattle.vs_plan.specs.Right.{IsRight}
use Rattle.vs_plan.specs.Shown.{IsShown}
use Rattle.vs_plan.specs.Stores.{FindTheirWords}
use Rattle.vs_plan.specs.Target.{frames_end}
use Rattle.vs_plan.specs.Way.{IsWay}
use Rattle.vs_range.specs.declared.planner.RangePlanner.{RangePlanner}
use Rattle.vs_range.specs.declared.planner.RangeStep.{RangeStep}
use Rattle.vs_range.specs.declared.planner.RangeStep.TheVariants.{See, Give, Runs, Harvests, Planned, Absent, Beyond}
use Rattle.vs_range.specs.declared.run.Change.{Change}
use Rattle.vs_range.specs.declared.run.Change.TheVariants.{Write, Clear, Allow, Unflag}
use Rattle.vs_range.specs.declared.run.Forget.TheVariants as forget
use Rattle.vs_range.specs.declared.run.Run.{Run}
use Rattle.vs_range.specs.Run.{stores_of, flushes_in, IsRunRight}
use Rattle.vs_range.specs.Several.{IsDroppedByOne}

-- ---- what a range asks

-- what is wrong with a range: it goes beyond the last address; else what is wrong with the call on its first page
abbrev pub range_fault : Target → Request → ℕ → Option BadRequest
range_fault target request bytes = if nat_lt (2 ^ 64) (address_of request + bytes) then Some NotCanonical else request_fault target request

-- whether so many bytes are those of pages of a size, of one at least
abbrev pub are_pages : Size → ℕ → Bool
are_pages size bytes = not (bytes == 0) && (bytes % bytes_of size == 0)

-- the first thing that is wrong with a map of so many bytes: they are no whole pages; else what is wrong with the range
abbrev pub map_fault : Target → Page → ℕ → ℕ → Option BadRequest
map_fault target page bits bytes = if are_pages page.size bytes then range_fault target (Map page bits) bytes else Some Unaligned

-- ---- what it waits for

-- what may be done to a range
abbrev pub IsRanged : Request → Type 0
IsRanged (Map page bits) = Unit {0}
IsRanged (Unmap base) = Unit {0}
IsRanged (Protect base rights) = Unit {0}
IsRanged (Ask address) = Unit {0}
IsRanged request = ⊥

-- the request maps a page
abbrev pub IsMap : Request → Type 0
IsMap (Map page bits) = Unit {0}
IsMap request = ⊥

-- the request asks of an address
abbrev pub IsAsk : Request → Type 0
IsAsk (Ask address) = Unit {0}
IsAsk request = ⊥

-- the planner waits for the words of a frame
pub record AwaitsRange (range : RangePlanner) : Type 0 where
  pub words : AwaitsWords range.planner
  pub base : address_of range.planner.request ≡ range.base
  pub kind : IsRanged range.planner.request

-- a new planner of so many bytes, from the address of this request on: they end at the last address at the latest
pub record IsNewRange (target : Target) (request : Request) (bytes : ℕ) (range : RangePlanner) : Type 0 where
  pub asked : IsRequest target request
  pub of_target : range.planner.target ≡ target
  pub of_request : range.planner.request ≡ request
  pub of_bytes : range.bytes ≡ bytes
  pub ends : address_of request + bytes ≤ 2 ^ 64
  pub together : range.alone ≡ false
  pub awaits : AwaitsRange range
  pub shown : (memory : Memory) → IsShown memory range.planner

-- what is asked stays
abbrev pub IsSameRange : RangePlanner → RangePlanner → Type 0
IsSameRange before after = (after.planner.target ≡ before.planner.target) × (after.planner.request ≡ before.planner.request)
    × (after.base ≡ before.base) × (after.bytes ≡ before.bytes)

-- it waits for what the step says
abbrev pub AwaitsNext : RangePlanner → RangeStep → Type 0
AwaitsNext range (See number) = AwaitsRange range × (range.planner.number ≡ number)
AwaitsNext range Give = AwaitsFrame range.planner
AwaitsNext range (Runs run) = Unit {0}
AwaitsNext range (Harvests run) = Unit {0}
AwaitsNext range (Planned plan) = Unit {0}
AwaitsNext range (Absent bytes) = Unit {0}
AwaitsNext range (Beyond size) = Unit {0}

-- the step of the first page's planner
abbrev pub as_range : Step → RangeStep
as_range (steps.See number) = See number
as_range steps.Give = Give
as_range (steps.Planned plan) = Planned plan

-- the words of how many frames it asks for at most: of one a level, and of the lowest once more, unless the first page is dealt with by itself
abbrev pub range_sees : RangePlanner → ℕ
range_sees range = range.planner.level + cond range.alone 0 1

-- and after a step
abbrev pub range_sees_left : RangePlanner → RangeStep → ℕ
range_sees_left range (See number) = range_sees range
range_sees_left range Give = 0
range_sees_left range (Runs run) = 0
range_sees_left range (Harvests run) = 0
range_sees_left range (Planned plan) = 0
range_sees_left range (Absent bytes) = 0
range_sees_left range (Beyond size) = 0

-- how many frames it asks for after a step at most
abbrev pub range_gives_left : RangePlanner → RangeStep → ℕ
range_gives_left range (See number) = levels range.planner.target.depth
range_gives_left range Give = range.planner.level - range.planner.height
range_gives_left range (Runs run) = 0
range_gives_left range (Harvests run) = 0
range_gives_left range (Planned plan) = 0
range_gives_left range (Absent bytes) = 0
range_gives_left range (Beyond size) = 0

-- where a frame is waited for, these were given
abbrev pub HasGivenFor : RangePlanner → List ℕ → RangeStep → Type 0
HasGivenFor range frames (See number) = Unit {0}
HasGivenFor range frames Give = frames_given range.planner ≡ frames
HasGivenFor range frames (Runs run) = Unit {0}
HasGivenFor range frames (Harvests run) = Unit {0}
HasGivenFor range frames (Planned plan) = Unit {0}
HasGivenFor range frames (Absent bytes) = Unit {0}
HasGivenFor range frames (Beyond size) = Unit {0}

-- a run lies in its table, whatever words were shown
abbrev pub HasRoom : RangeStep → Type 0
HasRoom (See number) = Unit {0}
HasRoom Give = Unit {0}
HasRoom (Runs run) = run.index + run.count ≤ 512
HasRoom (Harvests run) = run.index + run.count ≤ 512
HasRoom (Planned plan) = Unit {0}
HasRoom (Absent bytes) = Unit {0}
HasRoom (Beyond size) = Unit {0}

-- ---- what a run is of

-- a word is the entry of a page, in a table of this level
pub record IsPageWord (level word : ℕ) : Type 0 where
  pub phys : ℕ
  pub own : Rights
  pub says : meaning level word ≡ entry.Leaf phys own

-- the page that begins at the base of a range has this size, and the entry for it, in the table that is seen, is this word
pub record IsPageAt (range : RangePlanner) (word : ℕ) (size : Size) : Type 0 where
  pub page : IsPageWord range.planner.level word
  pub level : range.planner.level ≡ level_of size
  pub aligned : range.base % bytes_of size ≡ 0

-- so many pages of a map, from this one on, may be written in the table that is seen, where the first entry is this word
pub record IsMapRoom (range : RangePlanner) (page : Page) (word count : ℕ) : Type 0 where
  pub level : range.planner.level ≡ level_of page.size
  pub absent : word % 2 ≡ 0
  pub allows : intersection range.planner.rights page.rights ≡ page.rights
  pub room : index_at range.planner.level range.base + count ≤ 512
  pub within : (n : ℕ) → n ≤ count → n * bytes_of page.size ≤ range.bytes
  pub low : (n : ℕ) → n ≤ count → page.phys + n * bytes_of page.size ≤ 2 ^ 51
  pub phys : (n : ℕ) → n ≤ count → page.phys + n * bytes_of page.size ≤ 2 ^ range.planner.target.phys_bits

-- a word of a table that is none of a run's, and not 0
pub record HasOther (words : List ℕ) (index count : ℕ) : Type 0 where
  pub other : ℕ
  pub low : other < 512
  pub apart : (other < index) ⊎ (index + count ≤ other)
  pub some : slice_index words other ≢ 0

-- the run that maps so many pages, from this one on
abbrev pub map_run : Page → ℕ → ℕ → ℕ → ℕ → Run
map_run page bits count frame index = record {
  size = page.size;
  count = count;
  frame = frame;
  index = index;
  change = Write (page_word page bits) (bytes_of page.size);
  forget = forget.Nothing;
}

-- the run that gives so many pages of this size these rights
abbrev pub protect_run : Size → ℕ → Rights → ℕ → ℕ → ℕ → Run
protect_run size base rights count frame index = record {
  size = size;
  count = count;
  frame = frame;
  index = index;
  change = Allow rights;
  forget = forget.Pages base size count;
}

-- the run that removes them
abbrev pub unmap_run : Size → ℕ → ℕ → ℕ → ℕ → Run
unmap_run size base count frame index = record {
  size = size;
  count = count;
  frame = frame;
  index = index;
  change = Clear;
  forget = forget.Pages base size count;
}

-- the run that takes the flags away from them
abbrev pub harvest_run : Size → ℕ → ℕ → ℕ → ℕ → Run
harvest_run size base count frame index = record {
  size = size;
  count = count;
  frame = frame;
  index = index;
  change = Unflag;
  forget = forget.Pages base size count;
}

-- how the words change, as was asked
abbrev pub change_of : Request → Size → Change
change_of (Map page bits) size = Write (page_word page bits) (bytes_of size)
change_of (Unmap base) size = Clear
change_of (Protect base rights) size = Allow rights
change_of request size = Unflag

-- a run is of the table to which the way of the base leads, from the entry for the base on: of pages of that table's level, which change as was asked
pub record IsRunOf (memory : Memory) (range : RangePlanner) (run : Run) : Type 0 where
  pub rights : Rights
  pub way : IsWay range.planner.target.depth memory range.planner.target.root range.base (level_of run.size) run.frame rights
  pub level : range.planner.level ≡ level_of run.size
  pub index : run.index ≡ index_at (level_of run.size) range.base
  pub aligned : range.base % bytes_of run.size ≡ 0
  pub change : run.change ≡ change_of range.planner.request run.size

-- the words of a frame
abbrev pub words_in : Memory → ℕ → List ℕ
words_in memory number = unwrap_or (finite.get memory number) []

-- a page of this size begins at the base, and its entry is among these words of the table that is seen
abbrev pub IsSeenPage : RangePlanner → List ℕ → Size → Type 0
IsSeenPage range words size =
    (range.planner.phase ≡ Descent) × IsPageAt range (slice_index words (index_at range.planner.level range.base)) size

-- whether the page at the base is in a run: of a map if there is room for it, of an unmap if its table has another word, of a protect if the entries
-- above allow the rights
abbrev pub IsInRun : RangePlanner → List ℕ → Request → Type 0
IsInRun range words (Map page bits) = IsMapRoom range page (slice_index words (index_at range.planner.level range.base)) 1
IsInRun range words (Unmap base) = (range.alone ≡ false) × HasOther words (index_at range.planner.level range.base) 1
IsInRun range words (Protect base rights) = intersection range.planner.rights rights ≡ rights
IsInRun range words (Ask address) = Unit {0}
IsInRun range words request = ⊥

-- the step is a run, or a harvest of one
abbrev pub IsRunStep : RangeStep → Type 0
IsRunStep (See number) = ⊥
IsRunStep Give = ⊥
IsRunStep (Runs run) = Unit {0}
IsRunStep (Harvests run) = Unit {0}
IsRunStep (Planned plan) = ⊥
IsRunStep (Absent bytes) = ⊥
IsRunStep (Beyond size) = ⊥

-- a page that is seen at the base is named where it ends beyond the range, and else dealt with in a run, not alone; and so is one that a map has room for
pub record TakesPage (range : RangePlanner) (words : List ℕ) (step : RangeStep) : Type 0 where
  pub beyond : (size : Size) → IsSeenPage range words size → (IsMap range.planner.request → ⊥) → range.bytes < bytes_of size → step ≡ Beyond size
  pub within : (size : Size) → IsSeenPage range words size → bytes_of size ≤ range.bytes → IsInRun range words range.planner.request
      → IsRunStep step
  pub mapped : IsMap range.planner.request → range.planner.phase ≡ Descent → IsInRun range words range.planner.request → IsRunStep step

-- on the way down a link to a table within the physical addresses leads on, above the level of a page that is mapped: that table is asked for next
abbrev pub FollowsLink : RangePlanner → List ℕ → RangePlanner → RangeStep → Type 0
FollowsLink before words after step = (next : ℕ) (own : Rights) → before.planner.phase ≡ Descent
    → lowest_of before.planner.request < before.planner.level
    → meaning before.planner.level (slice_index words (index_at before.planner.level before.base)) ≡ entry.Table next own
    → next < frames_end before.planner.target
    → (step ≡ See next) × (after.planner.level ≡ before.planner.level - 1) × (after.planner.phase ≡ Descent) × (after.alone ≡ before.alone)

-- ---- what its next step means

-- the page that begins at the base ends beyond so many bytes
pub record EndsBeyond (space : Space) (base bytes : ℕ) (size : Size) : Type 0 where
  pub page : Page
  pub there : page_at space base ≡ Some page
  pub begins : page.base ≡ base
  pub size_is : page.size ≡ size
  pub beyond : bytes < bytes_of size

-- nothing is mapped at the first so many bytes of a range, of which there are some. They end with an entry of the table to which the way of the base
-- leads, and the table ends there, or the next entry is present
pub record IsAbsentFor (memory : Memory) (range : RangePlanner) (bytes : ℕ) : Type 0 where
  pub kind : IsMap range.planner.request → ⊥
  pub some : 1 ≤ bytes
  pub nothing : (address : ℕ) → IsCanonical range.planner.target.depth address → range.base ≤ address → address < range.base + bytes
      → walk range.planner.target.depth memory range.planner.target.root address ≡ NotMapped
  pub level : ℕ
  pub number : ℕ
  pub rights : Rights
  pub way : IsWay range.planner.target.depth memory range.planner.target.root range.base level number rights
  pub gap : slice_index (words_in memory number) (index_at level range.base) % 2 ≡ 0
  pub whole : (range.base + bytes) % entry_bytes level ≡ 0
  pub longest : ((range.base + bytes) % table_bytes level ≡ 0)
      ⊎ (slice_index (words_in memory number) (index_at level (range.base + bytes)) % 2 ≢ 0)

-- behind a run nothing follows that the request takes too. For a map the entry there is present, or the page would go beyond the physical addresses.
-- Otherwise no page begins there; or it is the table's only other word, which an unmap leaves for the last
abbrev pub EndsAtWord : RangePlanner → Run → List ℕ → Request → Type 0
EndsAtWord range run words (Map page bits) = (slice_index words (run.index + run.count) % 2 ≢ 0)
    ⊎ (2 ^ min range.planner.target.phys_bits 51 < page.phys + (run.count + 1) * bytes_of run.size)
EndsAtWord range run words (Unmap base) = (IsPageWord range.planner.level (slice_index words (run.index + run.count)) → ⊥)
    ⊎ ((i : ℕ) → i < 512 → (i < run.index) ⊎ (run.index + run.count < i) → slice_index words i ≡ 0)
EndsAtWord range run words request = IsPageWord range.planner.level (slice_index words (run.index + run.count)) → ⊥

-- a run ends where its table ends, or the range, or at such a word
abbrev pub EndsWith : RangePlanner → Run → List ℕ → Request → Type 0
EndsWith range run words request =
    (run.index + run.count ≡ 512) ⊎ ((range.bytes < (run.count + 1) * bytes_of run.size) ⊎ EndsAtWord range run words request)

-- so it is as long as it can be
abbrev pub IsLongest : Memory → RangePlanner → Run → Type 0
IsLongest memory range run = EndsWith range run (words_in memory run.frame) range.planner.request

-- a run that is right for each space, and within the range; nothing has to be forgotten after it, or its pages
pub record IsRunNext (memory : Memory) (range : RangePlanner) (run : Run) : Type 0 where
  pub of_table : IsRunOf memory range run
  pub some : 1 ≤ run.count
  pub within : run.count * bytes_of run.size ≤ range.bytes
  pub longest : IsLongest memory range run
  pub forgets : (run.forget ≡ forget.Nothing) ⊎ (run.forget ≡ forget.Pages range.base run.size run.count)
  pub right : (space : Space) → IsPremise range.planner.target.depth memory range.planner.target.root range.base space
      → IsRunRight range.planner.target range.planner.request memory space run

-- a harvest, where a page is asked of: it has a page, its words are entries of pages, and it is within the range. Each store finds the
-- entry of a page, and takes the two flags from it and nothing else; and
-- what is kept of its pages is dropped, so that a processor sets the flags again
pub record IsHarvestNext (memory : Memory) (range : RangePlanner) (run : Run) : Type 0 where
  pub kind : IsAsk range.planner.request
  pub of_table : IsRunOf memory range run
  pub pages : (number : ℕ) → number < run.count → IsPageWord range.planner.level (slice_index (words_in memory run.frame) (run.index + number))
  pub some : 1 ≤ run.count
  pub within : run.count * bytes_of run.size ≤ range.bytes
  pub longest : IsLongest memory range run
  pub forgets : run.forget ≡ forget.Pages range.base run.size run.count
  pub found : FindTheirWords memory (stores_of memory run)
  pub cleared : All (λ store. IsPageWord range.planner.level store.old × (store.new ≡ unflagged store.old)) (stores_of memory run)
  pub dropped : (number frame level : ℕ) (rights : Rights) → number < run.count → IsDroppedByOne (flushes_in run.forget)
      (Translation level (page_number level (range.base + number * bytes_of run.size)) frame rights)

-- the next step, by what was shown of the memory and which frames were offered
abbrev pub IsRangeNext : Memory → RangePlanner → List (Option ℕ) → RangeStep → Type 0
IsRangeNext memory range offered (See number) = IsShown memory range.planner
IsRangeNext memory range offered Give = IsShown memory range.planner
IsRangeNext memory range offered (Runs run) = IsRunNext memory range run
IsRangeNext memory range offered (Harvests run) = IsHarvestNext memory range run
IsRangeNext memory range offered (Planned plan) = (space : Space)
    → IsPremise range.planner.target.depth memory range.planner.target.root (address_of range.planner.request) space
    → IsRight range.planner.target range.planner.request memory space offered plan
IsRangeNext memory range offered (Absent bytes) = IsAbsentFor memory range bytes
IsRangeNext memory range offered (Beyond size) = (IsMap range.planner.request → ⊥) × ((space : Space)
    → IsPremise range.planner.target.depth memory range.planner.target.root range.base space → EndsBeyond space range.base range.bytes size)

-- the same, once these words of the frame that was asked for were shown
abbrev pub IsSeenNext : RangePlanner → List ℕ → RangePlanner → RangeStep → Type 0
IsSeenNext before words after step = (memory : Memory) → IsShown memory before.planner
    → finite.get memory before.planner.number ≡ Some words → IsRangeNext memory after [] step
