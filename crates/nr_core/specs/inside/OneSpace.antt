-- A page table is of at most one space.
use Rattle.std.specs.Prelude.{◌≡◌}
use Rattle.std.proofs.Props.{props}
use mathlib.Core.HLevel.{Σ_prop_path}
use Rattle.vs_types.specs.Space.{Space}
use Rattle.vs_space.specs.Table.{PageTable, IsTableOf}
use Rattle.vs_walk.proofs.LawsOfTranslations as laws

of_prop : (table : PageTable) (space : Space) → IsProp (IsTableOf table space)
of_prop table space = Prim.hlevel props

same_space : (table : PageTable) (s t : Space) → IsTableOf table s → IsTableOf table t → s ≡ t
same_space table s t p q = laws.one_space table.depth table.memory table.root s t p.is_space q.is_space p.translates q.translates

pub one_space : (table : PageTable) → IsProp ((space : Space) × IsTableOf table space)
one_space table (s, p) (t, q) = Σ_prop_path (of_prop table) (same_space table s t p q)

pub is_the_space : (table : PageTable) (some : (space : Space) × IsTableOf table space) (space : Space) → IsTableOf table space → some.0 ≡ space
is_the_space table some space of = same_space table some.0 space some.1 of
