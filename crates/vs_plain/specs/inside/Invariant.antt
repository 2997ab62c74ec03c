-- What holds of each plain space: it is a space, and the number of its tables is kept beside it.
use Rattle.std.specs.Prelude.{◌≡◌, ℕ}
use Rattle.vs_types.specs.Space.{Space, IsSpace, table_count}
use Rattle.vs_types.specs.declared.addresses.depth.Depth.{Depth}

pub record IsCounted (depth : Depth) (tables : ℕ) (space : Space) : Type 0 where
  pub is_space : IsSpace depth space
  pub counted : tables ≡ table_count depth space
