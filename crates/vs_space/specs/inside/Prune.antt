-- What is left when tables under which nothing is mapped are freed. No public clause cites it.
use Rattle.std.specs.Prelude.{◌≡◌, ℕ, suc, ◌+◌, ◌-◌, ◌<◌, ◌≤◌, List, Some, slice_index}
use Rattle.std.specs.FinMap as finite
use Rattle.vs_types.specs.Depth.{levels, IsCanonical}
use Rattle.vs_types.specs.declared.addresses.depth.Depth.{Depth}
use Rattle.vs_types.specs.declared.entries.entry.Meaning.TheVariants as entry
use Rattle.vs_walk.specs.Memory.{Memory, AreWhole}
use Rattle.vs_walk.specs.Walk.{walk}
use Rattle.vs_space.specs.Flags.{AddsNoFlags}
use Rattle.vs_space.specs.Footprint.{HasMoreOnPath}
use Rattle.vs_space.specs.Path.{found_at, table_at, SamePath}
use Rattle.vs_space.specs.Tree.{IsTree, IsFilled, IsReached, NothingUnder}

-- each table below the root has an address that is mapped, but for those on the path of this address
pub record IsFilledBut (depth : Depth) (memory : Memory) (root base : ℕ) : Type 0 where
  pub filled : (level a n : ℕ) → level < levels depth → table_at (levels depth) memory root level a ≡ Some n
      → (SamePath (levels depth) (suc level) base a → ⊥) → NothingUnder depth memory root (suc level) a → ⊥

-- the path of the address ends at an absent entry of the table of this level; other tables than those on it have something mapped
pub record IsCut (depth : Depth) (memory : Memory) (root base level : ℕ) (path : List ℕ) : Type 0 where
  pub tree : IsTree (levels depth) memory root
  pub filled : IsFilledBut depth memory root base
  pub all_reached : IsReached (levels depth) memory root
  pub whole : AreWhole memory
  pub some : 1 ≤ level
  pub below : level ≤ levels depth
  pub reached : (j : ℕ) → level ≤ j → j ≤ levels depth → table_at (levels depth) memory root j base ≡ Some (slice_index path j)
  pub absent : found_at level memory (slice_index path level) base ≡ Some entry.Absent

-- a table for each level from one up to another was freed, and addresses are walked as before
pub record IsPruned (depth : Depth) (old new : Memory) (root base from level : ℕ) : Type 0 where
  pub tree : IsTree (levels depth) new root
  pub filled : IsFilled depth new root
  pub all_reached : IsReached (levels depth) new root
  pub whole : AreWhole new
  pub walks : (b : ℕ) → IsCanonical depth b → walk depth new root b ≡ walk depth old root b
  pub above : from ≤ level
  pub below : level ≤ levels depth
  pub fewer : finite.len new + (level - from) ≡ finite.len old
  pub plain : AddsNoFlags old new
  pub less : HasMoreOnPath depth root base new old
  pub nothing : NothingUnder depth new root level base
  pub something : (j : ℕ) → level < j → j ≤ levels depth → NothingUnder depth new root j base → ⊥
