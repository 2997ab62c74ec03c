-- What the passes of a new log own.
use Rattle.std.proofs.Common.{◌≡◌, ℕ, ◌<◌, List, [], ◌∷◌, ◌++◌, length, map, slice_index_or, sym, ap, ◌∙◌, arith}
use Rattle.std.specs.List.{range_with_len}
use Rattle.std.proofs.lemmas.List.{get_or_append_left}
use Rattle.std.proofs.lemmas.List.FromFn.{get_or-map-range_with_len, length-map-range_with_len}
use Rattle.std.proofs.Math.ListN.{length-append}

-- of a list of owners, one of each number, and one more, of which the last was taken out: each is at its number
pub owner_of : {X : Type 0} (owner : ℕ → X) (count i : ℕ) (all rest : List X) (more last d : X)
    → all ≡ map owner (range_with_len 0 count) ++ more ∷ [] → all ≡ rest ++ last ∷ []
    → i < length rest → slice_index_or rest i d ≡ owner i
owner_of owner count i all rest more last d made popped lt =
    let owners = map owner (range_with_len 0 count) in
    let counted : length (rest ++ last ∷ []) ≡ length (owners ++ more ∷ []) = ap length (sym popped ∙ made) in
    let many : length owners ≡ count = length-map-range_with_len owner 0 count in
    let below : i < count = omega (arith, counted, many, length-append rest (last ∷ []), length-append owners (more ∷ [])) in
    let there : i < length owners = omega (arith, many) in
    sym (get_or_append_left rest (last ∷ []) d i lt)
    ∙ ap (λ ys. slice_index_or ys i d) (sym popped ∙ made)
    ∙ get_or_append_left owners (more ∷ []) d i there
    ∙ get_or-map-range_with_len owner 0 count i i d below (omega arith)
