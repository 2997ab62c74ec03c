-- What a processor may keep of the tables that it reads, and what an access may find (Intel SDM volume 3A, chapter "Paging",
-- section "Caching translation information"), for one root, whose frame CR3 names. Left out: process-context identifiers, global
-- pages and other address spaces. A large page that is kept in parts is kept as a whole here, since the section promises the same of both.
-- An access that is under way has kept what it read so far. What is read ahead is what may be kept of any address.
use Rattle.std.specs.Prelude.{◌≡◌, ℕ, suc, ◌+◌, ◌/◌, ◌%◌, ◌<◌, ◌≤◌, List, [], ◌∷◌, Some}
use Rattle.vs_types.specs.Depth.{levels, entry_bytes, table_bytes, IsCanonical}
use Rattle.vs_types.specs.Entry.{size_at, all_rights}
use Rattle.vs_types.specs.Page.{bytes_of, intersection}
use Rattle.vs_types.specs.declared.addresses.depth.Depth.{Depth}
use Rattle.vs_types.specs.declared.addresses.page.Rights.{Rights}
use Rattle.vs_types.specs.declared.entries.entry.Meaning.TheVariants as entry
use Rattle.vs_walk.specs.Memory.{Memory}
use Rattle.vs_walk.specs.Walk.{walk_from}
use Rattle.vs_walk.specs.declared.walk.Walk.{Walk}
use Rattle.vs_walk.specs.declared.walk.Walk.TheVariants.{Mapped}
use Rattle.vs_space.specs.Path.{found_at}
use Rattle.vs_plan.specs.declared.plans.plan.Flush.{Flush}
use Rattle.vs_plan.specs.declared.plans.plan.Flush.TheVariants.{Nothing, Page, PageAndTables, Range}

-- "Page Numbers, Page Frames, and Page Offsets": the upper bits of an address, down to those that select an entry of this level
abbrev pub page_number : ℕ → ℕ → ℕ
page_number level address = address / entry_bytes level

-- the upper bits of an address, down to those that select the table of this level
abbrev pub region_number : ℕ → ℕ → ℕ
region_number level address = address / table_bytes level

-- what a processor may keep: a translation of a page, or the table of a region
pub data Kept : Type 0 where
  -- "Caching Translations in TLBs": for a page number, the page frame, from an entry of this level, and what all the entries used allow
  Translation : (level page frame : ℕ) (rights : Rights) → Kept
  -- "Caches for Paging Structures": for the addresses of a region, the frame of the table of this level, and what all the entries used allow
  PagingEntry : (level region number : ℕ) (rights : Rights) → Kept

-- what may be kept by reads of a memory, of what was kept before: the root at any time, and what an entry of the memory says, in a table
-- that is kept. An entry that is absent or has a reserved bit set is never kept.
pub data MayKeepBy (depth : Depth) (root : ℕ) (memory : Memory) (before : Kept → Type 0) : Kept → Type 0 where
  KeptBefore : (kept : Kept) → before kept → MayKeepBy depth root memory before kept
  OfRoot : (address : ℕ) → IsCanonical depth address
      → MayKeepBy depth root memory before (PagingEntry (levels depth) (region_number (levels depth) address) root all_rights)
  OfTable : (address below number next : ℕ) (rights own : Rights) → IsCanonical depth address
      → MayKeepBy depth root memory before (PagingEntry (suc below) (region_number (suc below) address) number rights)
      → found_at (suc below) memory number address ≡ Some (entry.Table next own)
      → MayKeepBy depth root memory before (PagingEntry below (region_number below address) next (intersection rights own))
  OfPage : (address below number phys : ℕ) (rights own : Rights) → IsCanonical depth address
      → MayKeepBy depth root memory before (PagingEntry (suc below) (region_number (suc below) address) number rights)
      → found_at (suc below) memory number address ≡ Some (entry.Leaf phys own)
      → MayKeepBy depth root memory before (Translation (suc below) (page_number (suc below) address) phys (intersection rights own))

-- "Operations that Invalidate TLBs and Paging-Structure Caches": INVLPG of an address of the page drops each translation for a page number
-- of the address, and each entry in the paging-structure caches. A flush of a page alone drops no more than the first. A flush of a range
-- drops the translations for the page numbers of each of its addresses.
abbrev pub IsDropped : Flush → Kept → Type 0
IsDropped Nothing kept = ⊥
IsDropped (Page base size) (Translation level page frame rights) = page ≡ page_number level base
IsDropped (Page base size) (PagingEntry level region number rights) = ⊥
IsDropped (PageAndTables base size) (Translation level page frame rights) = page ≡ page_number level base
IsDropped (PageAndTables base size) (PagingEntry level region number rights) = Unit
IsDropped (Range base size) (Translation level page frame rights) =
    (address : ℕ) × (base ≤ address) × (address < base + bytes_of size) × (page ≡ page_number level address)
IsDropped (Range base size) (PagingEntry level region number rights) = Unit

-- what a processor lives through
pub data Moment : Type 0 where
  -- the memory is this one, and is read any number of times
  Is : (memory : Memory) → Moment
  -- the processor flushes
  Flushes : (flush : Flush) → Moment

-- what a processor may have kept after these moments, of which the latest comes first; nothing before the earliest
abbrev pub MayKeep : Depth → ℕ → List Moment → Kept → Type 0
MayKeep depth root [] kept = ⊥
MayKeep depth root (Is memory ∷ earlier) kept = MayKeepBy depth root memory (MayKeep depth root earlier) kept
MayKeep depth root (Flushes flush ∷ earlier) kept = MayKeep depth root earlier kept × (IsDropped flush kept → ⊥)

-- "Details of TLB Use", "Using the Paging-Structure Caches to Translate Linear Addresses": an access finds any translation that is kept
-- for its page number, or walks the memory from any table that is kept for it, the root among them
pub data MayFind (depth : Depth) (root : ℕ) (memory : Memory) (moments : List Moment) (address : ℕ) : Walk → Type 0 where
  ByTranslation : (level frame : ℕ) (rights : Rights)
      → MayKeep depth root moments (Translation level (page_number level address) frame rights)
      → MayFind depth root memory moments address (Mapped (frame + address % entry_bytes level) (size_at level) rights)
  ByWalk : (level number : ℕ) (rights : Rights)
      → MayKeep depth root moments (PagingEntry level (region_number level address) number rights)
      → MayFind depth root memory moments address (walk_from memory level number rights address)

-- a processor keeps no more than one could that began with nothing and read this memory alone
abbrev pub IsUpToDate : Depth → ℕ → Memory → List Moment → Type 0
IsUpToDate depth root memory moments = (kept : Kept) → MayKeep depth root moments kept → MayKeep depth root (Is memory ∷ []) kept
