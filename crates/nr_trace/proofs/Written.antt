-- Bytes to which the spelling of a unit is added, piece by piece.
use Rattle.std.proofs.Common.{◌≡◌, ℕ, List, ◌++◌, append_assoc, ap, ◌∙◌}

-- two pieces are one
pub then : (old first between second new : List ℕ) → between ≡ old ++ first → new ≡ between ++ second → new ≡ old ++ (first ++ second)
then old first between second new e f = f ∙ ap (λ (l : List ℕ). l ++ second) e ∙ append_assoc old first second
