-- What contracts see of a pass.
use Rattle.std.specs.Prelude.{ℕ, ◌-◌, Bool, List}
pub use Rattle.atomic_table.specs.Seated.{TableId}
use Rattle.version_cell.specs.declared.layout.TheConstants.{WORDS}

-- which cell it is of, its number among the passes of the cell, what it knows, and the value that it saw last. Then whether it saw that
-- itself and not by meeting another, and its own words: where they begin among those beside the cell, and what lies in them
pub record CellPass (V X : Type 0) : Type 0 where
  pub cell : TableId
  pub number : ℕ
  pub view : V
  pub value : X
  pub fresh : Bool
  pub from : ℕ
  pub own : List ℕ

-- how many words lie beside a cell
abbrev pub beside : TableId → ℕ
beside cell = cell.words - WORDS
