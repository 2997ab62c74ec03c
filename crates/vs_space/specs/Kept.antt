-- Page tables that are taken apart: what a store keeps of one.
use Rattle.std.specs.Prelude.{ℕ, []}
use Rattle.vs_types.specs.declared.addresses.depth.Depth.{Depth}
use Rattle.vs_arena.specs.Store.{Store, Notes, Lenders}
use Rattle.vs_walk.specs.Memory.{AreWhole}
use Rattle.vs_space.specs.Held.{numbered, AreNumbered}
use Rattle.vs_space.specs.Table.{PageTable}
use Rattle.vs_space.specs.Counted.{IsCounted}
use Rattle.vs_space.specs.Invariant.{IsPageTable}

-- the page table in the frames in use of a store with this base and capacity, which these lent its memory
abbrev pub table_of : Lenders → Depth → ℕ → ℕ → ℕ → Store → PageTable
table_of lenders depth root base limit frames =
    record { depth = depth; base = base; limit = limit; root = root; memory = numbered base frames; lenders = lenders }

-- the frames in use of a store are the tables of a page table, and the note of each is how many of its words aren't 0
pub record KeepsTable (depth : Depth) (root base limit : ℕ) (frames : Store) (notes : Notes) : Type 0 where
  pub table : IsPageTable (table_of [] depth root base limit frames)
  pub in_range : AreNumbered (record { base = base; limit = limit; memory = numbered base frames; lenders = [] })
  pub whole : AreWhole frames
  pub counted : IsCounted frames notes
