-- Bytes that are cut in two places.
use Rattle.std.proofs.Common.{◌≡◌, ℕ, List, ◌++◌, take, drop, append_assoc, sym, ap, ◌∙◌}
use Rattle.std.proofs.lemmas.List.{take-append-drop}

pub cut_so : (bytes piece rest : List ℕ) (count : ℕ) → bytes ++ (piece ++ rest) ≡ (bytes ++ take count piece) ++ (drop count piece ++ rest)
cut_so bytes piece rest count =
    ap (λ (ps : List ℕ). bytes ++ (ps ++ rest)) (sym (take-append-drop count piece))
    ∙ ap (λ (ps : List ℕ). bytes ++ ps) (append_assoc (take count piece) (drop count piece) rest)
    ∙ sym (append_assoc bytes (take count piece) (drop count piece ++ rest))
