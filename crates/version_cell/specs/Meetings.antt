-- A pass that gets what another has seen.
use Rattle.std.specs.Prelude.{◌≡◌, ◌⊎◌, ℕ, ◌<◌, ◌≤◌, List, slice_set}
use mathlib.Core.Option.{some}
use lib.ListN.{get_elem?}

-- the one of the values that two passes saw last that has come further: that of the greater code
abbrev pub HaveComeFurther : {X : Type 0} → (X → ℕ) → X → X → X → Type 0
HaveComeFurther code first second value = ((code first < code second) × (value ≡ second)) ⊎ ((code second ≤ code first) × (value ≡ first))

-- whatever the others know, the rule stays when this pass's view becomes some w, which speaks of a value that it saw and not of the one
-- that the cell has now
abbrev pub Recalls : {V X : Type 0} → (X → List V → Type 0) → ℕ → V → X → (V → X → X → V → Type 0) → Type 0
Recalls holds pass v value then = (x : _) (views : List _) → holds x views → get_elem? views pass ≡ some v
    → (w : _) × holds x (slice_set views pass w) × then v value value w
