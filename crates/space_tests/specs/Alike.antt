-- A page table and a plain space of one space.
use Rattle.std.specs.Prelude.{◌≡◌}
use Rattle.vs_plain.specs.Plain.{BoundedSpace}
use Rattle.vs_space.specs.Table.{PageTable, IsTableOf}

-- what contracts see of the two
pub record Pair : Type 0 where
  pub table : PageTable
  pub plain : BoundedSpace

-- they have one depth and one limit of tables, and the page table is that of the plain space's space
pub record AreAlike (table : PageTable) (plain : BoundedSpace) : Type 0 where
  pub same_depth : table.depth ≡ plain.depth
  pub same_limit : table.limit ≡ plain.limit
  pub one_space : IsTableOf table plain.space
