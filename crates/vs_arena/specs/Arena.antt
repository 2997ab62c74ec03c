-- Arenas: stores whose frames lie in a row.
use Rattle.std.specs.Prelude.{ℕ}
use Rattle.vs_arena.specs.Store.{Store, Notes}

-- what contracts see of an arena: the number of its first frame, how many frames it has, those in use, and their notes
pub record Arena : Type 0 where
  pub base : ℕ
  pub size : ℕ
  pub frames : Store
  pub notes : Notes
