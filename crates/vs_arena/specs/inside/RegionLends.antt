-- What the places end as, once a `&mut` to one of their values has ended. No clause of a public call cites it.
use Rattle.std.specs.Prelude.{ℕ, List, slice_set, Option, Some}
use Rattle.std.specs.Borrow.{Fml, RattleType, MutBor, Lends}
use Rattle.vs_arena.specs.declared.region.Region.{Region}
use Rattle.vs_arena.specs.contracts.region.Region.{the_row}

abbrev pub with_places : {X : Type 0} → Region X → List (Option X) → Region X
with_places r cs = record { first = r.first; places = cs }

abbrev pub lends_place : (R : RattleType) → MutBor (Region R.Denot) → ℕ → MutBor R.Denot → Fml
lends_place R r i v = Lends (the_row R) R r v (λ w. with_places r.now (slice_set r.now.places i (Some w)))
