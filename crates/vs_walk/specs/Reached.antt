-- Lists with the same numbers.
use Rattle.std.specs.Prelude.{ℕ, ◌↔◌, List, Contains}

-- each number is in both or in neither
abbrev pub AreJust : List ℕ → List ℕ → Type 0
AreJust numbers others = (number : ℕ) → Contains numbers number ↔ Contains others number
