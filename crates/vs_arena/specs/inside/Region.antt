-- Places side by side, each empty or with a value.
use Rattle.std.specs.Prelude.{◌≡◌, ℕ, List, get_or, Option, Some, None}

-- the place at the index has a value
abbrev pub IsFilled : {X : Type 0} → List (Option X) → ℕ → Type 0
IsFilled {X = X} places index = (x : X) × (get_or places index None ≡ Some x)
