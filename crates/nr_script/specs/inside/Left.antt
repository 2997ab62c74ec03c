-- What is left of a text that is cut at a separator, and of what comes of one in pieces.
use Rattle.std.specs.Prelude.{◌≡◌, ◌==◌, ℕ, false, List, [], All, Option, Some, None}
use Rattle.std.specs.Borrow.{Bor}
use Rattle.vs_text.specs.Words.{parts}

-- the parts that are left; none where the last has been taken
abbrev pub parts_left : ℕ → Option (Bor (List ℕ)) → List (List ℕ)
parts_left separator None = []
parts_left separator (Some text) = parts separator text.now

-- no byte ends a line
abbrev pub HasNoEnd : List ℕ → Type 0
HasNoEnd bytes = All (λ byte. (byte == 10) ≡ false) bytes
