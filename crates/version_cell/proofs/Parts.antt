-- Words in two parts, and a list with one more at its end.
use Rattle.std.proofs.Common.{◌≡◌, ◌⊎◌, ◌∙◌, ℕ, zero, suc, ◌+◌, ◌<◌, ◌≤◌, List, [], ◌∷◌, ◌++◌, length, get_or, take, drop, refl, ap, sym, ⊎_elim, inl, inr}
use Rattle.std.proofs.Common.{arith, length-drop}
use Rattle.std.proofs.lemmas.List.{get_or-drop, get_or-take, length-take-le}
use mathlib.Core.Option.{some, some-injective, some-ne-none}
use lib.ListN.{get_elem?}
use Rattle.version_cell.specs.Words.{IsOwn}

pub in_rest : (n from place : ℕ) (own : List ℕ) → n ≤ length own → IsOwn (from + n) (drop n own) place → IsOwn from own place
in_rest n from place own few is = let long = length-drop n own in (omega (arith, is.0), omega (arith, is.1, long, few))

pub in_first : (n from place : ℕ) (own : List ℕ) → n ≤ length own → IsOwn from (take n own) place → IsOwn from own place
in_first n from place own few is = let long = length-take-le n own few in (is.0, omega (arith, is.1, long, few))

pub parts_apart : (n from place : ℕ) (own : List ℕ) → n ≤ length own → IsOwn (from + n) (drop n own) place → IsOwn from (take n own) place → ⊥
parts_apart n from place own few rest first = let long = length-take-le n own few in absurd (omega (arith, rest.0, first.1, long))

pub rest_within : (n from wide : ℕ) (own : List ℕ) → n ≤ length own → from + length own + 32 ≤ wide → from + n + length (drop n own) + 32 ≤ wide
rest_within n from wide own few within = let long = length-drop n own in omega (arith, long, few, within)

pub first_within : (n from wide : ℕ) (own : List ℕ) → n ≤ length own → from + length own + 32 ≤ wide → from + length (take n own) + 32 ≤ wide
first_within n from wide own few within = let long = length-take-le n own few in omega (arith, long, few, within)

abbrev Lie : List ℕ → ℕ → List ℕ → Type 0
Lie words from own = (i : ℕ) → i < length own → get_or words (from + i + 32) 0 ≡ get_or own i 0

pub rest_lies : (n from : ℕ) (words own : List ℕ) → n ≤ length own → Lie words from own → Lie words (from + n) (drop n own)
rest_lies n from words own few lie i lt = let long = length-drop n own in let e : from + n + i + 32 ≡ from + (n + i) + 32 = omega arith in
    ap (λ (z : ℕ). get_or words z 0) e ∙ (lie (n + i) (omega (arith, lt, long, few)) ∙ sym (get_or-drop n own i 0))

pub first_lies : (n from : ℕ) (words own : List ℕ) → n ≤ length own → Lie words from own → Lie words from (take n own)
first_lies n from words own few lie i lt = let long = length-take-le n own few in
    lie i (omega (arith, lt, long, few)) ∙ sym (get_or-take n own i 0 (omega (arith, lt, long)))

pub at_end : {A : Type 0} (l : List A) (a b : A) (j : ℕ) → get_elem? (l ++ a ∷ []) j ≡ some b → (get_elem? l j ≡ some b) ⊎ ((j ≡ length l) × (a ≡ b))
at_end [] a b zero e = inr (refl, some-injective a b e)
at_end [] a b (suc j) e = absurd (some-ne-none b (sym e))
at_end (x ∷ xs) a b zero e = inl e
at_end (x ∷ xs) a b (suc j) e = ⊎_elim (λ (t : get_elem? xs j ≡ some b). inl t) (λ (t : (j ≡ length xs) × (a ≡ b)). inr (ap suc t.0, t.1)) (at_end xs a b j e)
