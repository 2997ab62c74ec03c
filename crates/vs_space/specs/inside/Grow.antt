-- New tables on the path of an address, and the first page that is found from an address on. No public clause cites it.
use Rattle.std.specs.Prelude.{◌≡◌, ℕ, suc, ◌+◌, ◌-◌, ◌%◌, ◌<◌, ◌≤◌, Some, IsSome}
use Rattle.std.specs.FinMap as finite
use Rattle.vs_types.specs.Depth.{levels, entry_bytes, table_bytes, IsCanonical}
use Rattle.vs_types.specs.declared.addresses.depth.Depth.{Depth}
use Rattle.vs_types.specs.declared.addresses.page.Rights.{Rights}
use Rattle.vs_types.specs.declared.entries.entry.Meaning.TheVariants as entry
use Rattle.vs_walk.specs.Memory.{Memory}
use Rattle.vs_walk.specs.Walk.{walk}
use Rattle.vs_walk.specs.declared.walk.Walk.TheVariants.{NotMapped, Reserved}
use Rattle.vs_space.specs.Flags.{AddsNoFlags}
use Rattle.vs_space.specs.Footprint.{HasMoreOnPath}
use Rattle.vs_space.specs.Path.{found_at, table_at, SamePath}
use Rattle.vs_space.specs.Tree.{IsTree, IsFilled, IsReached}
use Rattle.vs_space.specs.inside.Prune.{IsFilledBut}

-- the path of the address ends at an absent entry of this table of this level; other tables than those on it have something mapped
pub record IsOpen (depth : Depth) (memory : Memory) (root base level number : ℕ) : Type 0 where
  pub tree : IsTree (levels depth) memory root
  pub filled : IsFilledBut depth memory root base
  pub all_reached : IsReached (levels depth) memory root
  pub below : level ≤ levels depth
  pub reached : table_at (levels depth) memory root level base ≡ Some number
  pub absent : found_at level memory number base ≡ Some entry.Absent

-- a table for each level from one down to another was linked below this one: where the path of the address ended there, addresses are walked as before
pub record IsExtended (old new : Memory) (base last from level number : ℕ) : Type 0 where
  pub in_use : IsSome (finite.get new number)
  pub more : finite.len new ≡ finite.len old + (from - level)
  pub plain : AddsNoFlags old new
  pub adds : (depth : Depth) (root : ℕ) → IsOpen depth old root base from last → HasMoreOnPath depth root base old new
  pub open_at : (depth : Depth) (root : ℕ) → IsOpen depth old root base from last → IsOpen depth new root base level number
  pub walks : (depth : Depth) (root : ℕ) → IsOpen depth old root base from last → (b : ℕ) → walk depth new root b ≡ walk depth old root b

-- a table of this level that begins at an address, below the root of tables under each of which something is mapped
pub record IsBelowRoot (depth : Depth) (memory : Memory) (root start level number : ℕ) : Type 0 where
  pub tree : IsTree (levels depth) memory root
  pub all_reached : IsReached (levels depth) memory root
  pub filled : IsFilled depth memory root
  pub faultless : (b : ℕ) → IsCanonical depth b → walk depth memory root b ≡ Reserved → ⊥
  pub canonical : IsCanonical depth start
  pub some : 1 ≤ level
  pub below : level < levels depth
  pub aligned : start % table_bytes level ≡ 0
  pub reached : table_at (levels depth) memory root level start ≡ Some number

-- a leaf on the path of an address at which a page begins
pub record IsLeafAt (depth : Depth) (memory : Memory) (root base : ℕ) : Type 0 where
  pub level : ℕ
  pub number : ℕ
  pub phys : ℕ
  pub own : Rights
  pub some : 1 ≤ level
  pub below : level ≤ levels depth
  pub reached : table_at (levels depth) memory root level base ≡ Some number
  pub found : found_at level memory number base ≡ Some (entry.Leaf phys own)
  pub begins : base % entry_bytes level ≡ 0

-- the base of a page below the table of a level on the path of the start, with nothing mapped from the start up to it
pub record IsLeastBase (depth : Depth) (memory : Memory) (root start from base : ℕ) : Type 0 where
  pub canonical : IsCanonical depth base
  pub from_start : start ≤ base
  pub same_path : SamePath (levels depth) (suc from) start base
  pub before : (b : ℕ) → IsCanonical depth b → start ≤ b → b < base → walk depth memory root b ≡ NotMapped
  pub leaf : IsLeafAt depth memory root base
