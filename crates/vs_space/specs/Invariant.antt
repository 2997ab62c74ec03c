-- What holds of each page table.
use Rattle.std.specs.Prelude.{◌≡◌, ℕ, ◌<◌, ◌^◌}
use Rattle.std.specs.FinMap as finite
use Rattle.vs_types.specs.Depth.{levels}
use Rattle.vs_types.specs.Space.{Space, table_count}
use Rattle.vs_types.specs.declared.addresses.depth.Depth.{Depth}
use Rattle.vs_walk.specs.Memory.{AreWhole}
use Rattle.vs_space.specs.Held.{Held}
use Rattle.vs_space.specs.Table.{PageTable, IsTableOf}
use Rattle.vs_space.specs.Tree.{IsTree, IsFilled, IsReached}

-- the page table with its root in one of the frames of a store
abbrev pub table_in_store : Depth → Held → ℕ → PageTable
table_in_store depth held root = record { depth = depth; base = held.base; limit = held.limit; root = root; memory = held.memory; lenders = held.lenders }

-- the space of a page table, which has as many tables as there are
pub record IsSpaceOf (table : PageTable) (space : Space) : Type 0 where
  pub is_of : IsTableOf table space
  pub counted : finite.len table.memory ≡ table_count table.depth space

-- what holds of the frames of each page table
pub record IsPageTable (table : PageTable) : Type 0 where
  pub tree : IsTree (levels table.depth) table.memory table.root
  pub filled : IsFilled table.depth table.memory table.root
  pub reached : IsReached (levels table.depth) table.memory table.root
  pub whole : AreWhole table.memory
  pub root_fits : table.root < 2 ^ 40
  pub some_space : (space : Space) × IsSpaceOf table space
