-- Elements by their index.
use Rattle.std.proofs.Common.{◌≡◌, ℕ, ◌+◌, ◌<◌, inl, inr, List, get_or, length, slice_get, Some, Contains, sym, ap, ◌∙◌, subst, arith}
use Rattle.std.proofs.lemmas.Bool.{cases_lt}
use Rattle.std.proofs.lemmas.Option.{same_Some, slice_get-get_or}

pub in_got : {X : Type 0} (xs : List X) (x : X) → Contains xs x → (k : ℕ) × (slice_get xs k ≡ Some x)
in_got xs x (k, l, is) = (k, slice_get-get_or xs k x l ∙ ap Some is)

-- what holds of the first elements, this many, and of the next one
pub below_more : {X : Type 0} (P : ℕ → X → Type 0) (xs : List X) (end : ℕ) (d : X) → end < length xs
    → ((k : ℕ) (x : X) → k < end → slice_get xs k ≡ Some x → P k x) → P end (get_or xs end d) → (k : ℕ) (x : X) → k < end + 1 → slice_get xs k ≡ Some x → P k x
below_more P xs end d l below here k x low at = elim (cases_lt k end) [
  | inl less ↦ below k x less at
  | inr past ↦
      let same : k ≡ end = omega (arith, low, past) in
      let one : get_or xs end d ≡ x = same_Some (get_or xs end d) x (sym (slice_get-get_or xs end d l) ∙ ap (slice_get xs) (sym same) ∙ at) in
      subst (λ (n : ℕ). P n x) (sym same) (subst (P end) one here)
]
