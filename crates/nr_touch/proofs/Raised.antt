-- A step of a pass that raises or lowers the bounds of pages.
use Rattle.std.proofs.Common.{◌≡◌, ◌≢◌, ℕ, ◌+◌, ◌-◌, ◌<◌, ◌≤◌, ◌⊎◌, inl, inr, List, get_or, length, max, min, refl, sym, ap, ◌∙◌, subst, arith}
use Rattle.std.proofs.lemmas.Bool.{cases_eq, cases_lt}
use Rattle.nr_touch.specs.inside.Bounds.{IsRaised, IsLowered}

-- the number at an index is raised to the one before it of its page, or left as it was
abbrev pub RaisesTo : List ℕ → List ℕ → List ℕ → List ℕ → ℕ → Type 0
RaisesTo pages old b new i =
    ((get_or pages (i - 1) 0 ≡ get_or pages i 0) × (get_or new i 0 ≡ max (get_or old i 0) (get_or b (i - 1) 0)))
    ⊎ ((get_or pages (i - 1) 0 ≢ get_or pages i 0) × (get_or new i 0 ≡ get_or old i 0))

pub raised_more : (pages old b new : List ℕ) (i : ℕ) → 0 < i → IsRaised pages old b i → length new ≡ length b
    → ((k : ℕ) → k ≢ i → get_or new k 0 ≡ get_or b k 0) → RaisesTo pages old b new i → IsRaised pages old new (i + 1)
raised_more pages old b new i some h many same how = record {
  one_each = many ∙ h.one_each;
  at_least = λ k l. elim (cases_eq k i) [
    | inl here ↦ subst (λ n. get_or old n 0 ≤ get_or new n 0) (sym here) (elim how [ inl (own, is) ↦ omega (arith, is) | inr (apart, is) ↦ omega (arith, is) ])
    | inr other ↦ let before = h.at_least k (omega arith) in let is = same k other in omega (arith, before, is)
  ];
  rising = λ k l page. elim (cases_eq (k + 1) i) [
    | inl here ↦
        let prior : i - 1 ≡ k = omega arith in
        let first = same k (omega arith) in
        let then : get_or new (k + 1) 0 ≡ get_or new i 0 = ap (λ n. get_or new n 0) here in
        let was : get_or b (i - 1) 0 ≡ get_or b k 0 = ap (λ n. get_or b n 0) prior in
        elim how [
          | inl (own, is) ↦ omega (arith, first, then, was, is)
          | inr (apart, is) ↦ absurd (apart (ap (λ n. get_or pages n 0) prior ∙ page ∙ ap (λ n. get_or pages n 0) here))
        ]
    | inr other ↦
        let before = h.rising k (omega arith) page in
        let first = same k (omega arith) in
        let then = same (k + 1) other in
        omega (arith, before, first, then)
  ];
  attained = λ k l. elim (cases_eq k i) [
    | inl here ↦ subst (λ n. (j : ℕ) × (j ≤ n) × (get_or pages j 0 ≡ get_or pages n 0) × (get_or new n 0 ≡ get_or old j 0)) (sym here) at_end
    | inr other ↦ let (j, low, own, is) = h.attained k (omega arith) in (j, low, own, same k other ∙ is)
  ];
} where
  at_end : (j : ℕ) × (j ≤ i) × (get_or pages j 0 ≡ get_or pages i 0) × (get_or new i 0 ≡ get_or old j 0)
  at_end = elim how [
    | inl (own, is) ↦ elim (cases_lt (get_or old i 0) (get_or b (i - 1) 0)) [
      | inl less ↦ let (j, low, of, at) = h.attained (i - 1) (omega (arith, some)) in (j, omega (arith, low), of ∙ own, omega (arith, is, less, at))
      | inr more ↦ (i, omega arith, refl, omega (arith, is, more))
    ]
    | inr (apart, is) ↦ (i, omega arith, refl, is)
  ]

-- the number at an index is lowered to the next one of its page, or left as it was
abbrev pub LowersTo : List ℕ → List ℕ → List ℕ → List ℕ → ℕ → Type 0
LowersTo pages old b new i =
    ((get_or pages i 0 ≡ get_or pages (i + 1) 0) × (get_or new i 0 ≡ min (get_or old i 0) (get_or b (i + 1) 0)))
    ⊎ ((get_or pages i 0 ≢ get_or pages (i + 1) 0) × (get_or new i 0 ≡ get_or old i 0))

pub lowered_more : (pages old b new : List ℕ) (i : ℕ) → i + 1 < length old → IsLowered pages old b (i + 1) → length new ≡ length b
    → ((k : ℕ) → k ≢ i → get_or new k 0 ≡ get_or b k 0) → LowersTo pages old b new i → IsLowered pages old new i
lowered_more pages old b new i some h many same how = record {
  one_each = many ∙ h.one_each;
  at_most = λ k low l. elim (cases_eq k i) [
    | inl here ↦ subst (λ n. get_or new n 0 ≤ get_or old n 0) (sym here) (elim how [ inl (own, is) ↦ omega (arith, is) | inr (apart, is) ↦ omega (arith, is) ])
    | inr other ↦ let before = h.at_most k (omega arith) l in let is = same k other in omega (arith, before, is)
  ];
  rising = λ k low l page. elim (cases_eq k i) [
    | inl here ↦
        let first : get_or new k 0 ≡ get_or new i 0 = ap (λ n. get_or new n 0) here in
        let then = same (k + 1) (omega arith) in
        let next : get_or b (k + 1) 0 ≡ get_or b (i + 1) 0 = ap (λ n. get_or b (n + 1) 0) here in
        elim how [
          | inl (own, is) ↦ omega (arith, first, then, next, is)
          | inr (apart, is) ↦ absurd (apart (subst (λ n. get_or pages n 0 ≡ get_or pages (n + 1) 0) here page))
        ]
    | inr other ↦
        let before = h.rising k (omega arith) l page in
        let first = same k other in
        let then = same (k + 1) (omega arith) in
        omega (arith, before, first, then)
  ];
  attained = λ k low l. elim (cases_eq k i) [
    | inl here ↦ subst (λ n. (j : ℕ) × (n ≤ j) × (j < length old) ×
        (get_or pages j 0 ≡ get_or pages n 0) × (get_or new n 0 ≡ get_or old j 0)) (sym here) at_begin
    | inr other ↦ let (j, from, within, own, is) = h.attained k (omega arith) l in (j, from, within, own, same k other ∙ is)
  ];
} where
  at_begin : (j : ℕ) × (i ≤ j) × (j < length old) × (get_or pages j 0 ≡ get_or pages i 0) × (get_or new i 0 ≡ get_or old j 0)
  at_begin = elim how [
    | inl (own, is) ↦ elim (cases_lt (get_or b (i + 1) 0) (get_or old i 0)) [
      | inl less ↦
          let (j, from, within, of, at) = h.attained (i + 1) (omega arith) some in
          (j, omega (arith, from), within, of ∙ sym own, omega (arith, is, less, at))
      | inr more ↦ (i, omega arith, omega (arith, some), refl, omega (arith, is, more))
    ]
    | inr (apart, is) ↦ (i, omega arith, omega (arith, some), refl, is)
  ]
