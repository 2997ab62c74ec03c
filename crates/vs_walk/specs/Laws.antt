-- Words of the laws of the traversal: what it says of the walks of single addresses, and where a reserved bit is met.
use Rattle.std.specs.Prelude.{◌≡◌, ℕ, suc, ◌<◌, List, length, slice_index, Option, Some}
use Rattle.std.specs.FinMap as finite
use Rattle.vs_types.specs.Depth.{levels}
use Rattle.vs_types.specs.Entry.{meaning}
use Rattle.vs_types.specs.Step.{look_in_page}
use Rattle.vs_types.specs.declared.addresses.depth.Depth.{Depth}
use Rattle.vs_types.specs.declared.entries.entry.Meaning.TheVariants as entry
use Rattle.vs_types.specs.declared.addresses.page.Page.{Page}
use Rattle.vs_types.specs.declared.addresses.page.Rights.{Rights}
use Rattle.vs_walk.specs.Memory.{Memory}
use Rattle.vs_walk.specs.Walk.{as_walk}
use Rattle.vs_walk.specs.declared.walk.Walk.{Walk}

-- the walk of an address that this page covers, or no page
abbrev pub as_found : ℕ → Option Page → Walk
as_found address page = as_walk (look_in_page address page)

-- a word of the frame, as an entry of a table of this level, leads to the other frame
pub record LeadsTo (memory : Memory) (level number other : ℕ) : Type 0 where
  pub words : List ℕ
  pub index : ℕ
  pub own : Rights
  pub there : finite.get memory number ≡ Some words
  pub within : index < length words
  pub leads : meaning level (slice_index words index) ≡ entry.Table other own

-- the frame is reached from the root as a table of this level: the root of the highest, each other of the level below that
-- of the table that leads to it
pub data IsTableAt (depth : Depth) (memory : Memory) (root : ℕ) : ℕ → ℕ → Type 0 where
  IsRoot : IsTableAt depth memory root (levels depth) root
  IsBelow : (level above number : ℕ) → IsTableAt depth memory root (suc level) above → LeadsTo memory (suc level) above number
      → IsTableAt depth memory root level number

-- the word of a frame at an index has a reserved bit set, as an entry of the level at which the frame is reached
pub record IsReservedWord (depth : Depth) (memory : Memory) (root number index : ℕ) : Type 0 where
  pub level : ℕ
  pub words : List ℕ
  pub table : IsTableAt depth memory root level number
  pub there : finite.get memory number ≡ Some words
  pub within : index < length words
  pub reserved : meaning level (slice_index words index) ≡ entry.Reserved
