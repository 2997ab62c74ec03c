-- The next change of how an address looks, and that it looks the same up to there.
use Rattle.std.proofs.Common.{◌≡◌, ℕ, zero, suc, ◌+◌, ◌-◌, ◌<◌, ◌≤◌, ◌⊎◌, inl, inr, sym, ap, ◌∙◌, subst, arith}
use Rattle.std.proofs.lemmas.Bool.{cases_lt}
use Rattle.vs_types.specs.Space.{Space}
use Rattle.nr_trace.specs.Recording.{Recording}
use Rattle.nr_touch.specs.Touches.{page_after, ChangesLook}
use Rattle.nr_touch.proofs.SamePages.{look_or_not, same_look}

module _ (start : Space) (trace : Recording) (a : ℕ) where
  -- no update from one number of entries to another changes how the address looks
  abbrev pub NoneWithin : ℕ → ℕ → Type 0
  NoneWithin m n = (place : ℕ) → m ≤ place → place < n → ChangesLook start trace a place → ⊥

  -- the first one does that changes it
  abbrev pub FirstWithin : ℕ → ℕ → Type 0
  FirstWithin m n = (place : ℕ) × (m ≤ place) × (place < n) × ChangesLook start trace a place × NoneWithin m place

  same_for : (k m n : ℕ) → m + k ≡ n → NoneWithin m n → page_after start trace a m ≡ page_after start trace a n
  same_for zero m n e none = ap (page_after start trace a) (let it : m ≡ n = omega (arith, e) in it)
  same_for (suc k) m n e none =
      same_look (page_after start trace a m) (page_after start trace a (m + 1)) (λ looks. none m (omega arith) (omega (arith, e)) looks)
      ∙ same_for k (m + 1) n (omega (arith, e)) (λ place low. none place (omega (arith, low)))

  pub same_within : (m n : ℕ) → m ≤ n → NoneWithin m n → page_after start trace a m ≡ page_after start trace a n
  same_within m n l = same_for (n - m) m n (omega (arith, l))

  first_for : (k m n : ℕ) → m + k ≡ n → NoneWithin m n ⊎ FirstWithin m n
  first_for zero m n e = inl (λ place low high looks. omega (arith, e, low, high))
  first_for (suc k) m n e = elim (look_or_not (page_after start trace a m) (page_after start trace a (m + 1))) [
    | inl same ↦ elim (first_for k (m + 1) n (omega (arith, e))) [
      | inl none ↦ inl (with_here n same none)
      | inr (place, low, high, looks, none) ↦ inr (place, omega (arith, low), high, looks, with_here place same none)
    ]
    | inr looks ↦ inr (m, omega arith, omega (arith, e), looks, λ place low high other. omega (arith, low, high))
  ] where
    with_here : (end : ℕ) → page_after start trace a m ≡ page_after start trace a (m + 1) → NoneWithin (m + 1) end → NoneWithin m end
    with_here end same none place low high looks = elim (cases_lt m place) [
      | inl less ↦ none place (omega (arith, less)) high looks
      | inr past ↦ subst (ChangesLook start trace a) (let here : place ≡ m = omega (arith, low, past) in here) looks same
    ]

  pub first_within : (m n : ℕ) → m ≤ n → NoneWithin m n ⊎ FirstWithin m n
  first_within m n l = first_for (n - m) m n (omega (arith, l))

  -- a change, up to which the address looks the same
  abbrev pub NextChange : ℕ → ℕ → Type 0
  NextChange m n =
      (place : ℕ) × (m ≤ place) × (place < n) × ChangesLook start trace a place × (page_after start trace a place ≡ page_after start trace a m)

  pub next_change : (m n : ℕ) → m ≤ n → NextChange m n ⊎ (page_after start trace a m ≡ page_after start trace a n)
  next_change m n l = elim (first_within m n l) [
    | inl none ↦ inr (same_within m n l none)
    | inr (place, low, high, looks, none) ↦ inl (place, low, high, looks, sym (same_within m place low none))
  ]
