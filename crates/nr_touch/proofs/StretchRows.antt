-- The stretches of rows, row by row.
use Rattle.std.proofs.Common.{◌≡◌, ℕ, ◌+◌, ◌-◌, ◌<◌, ◌≤◌, inl, inr, List, [], ◌∷◌, ◌++◌, get_or, length, sym, ap, ◌∙◌, subst, arith}
use Rattle.std.proofs.lemmas.Bool.{cases_lt}
use Rattle.std.proofs.lemmas.List.{get_or_append_left, get_or_push, get_or_read, length_push}
use Rattle.nr_touch.specs.inside.Stays.{AreStretches, EndsBy}
use Rattle.nr_touch.specs.declared.releases.stays.Stay.{Stay}

pub no_stretches : (stays : List Stay) (rows since until : List ℕ) → length since ≡ 0 → length until ≡ 0 → AreStretches stays rows since until 0
no_stretches stays rows since until firsts lasts =
    record { firsts = firsts; lasts = lasts; within = λ k l. absurd (omega (arith, l)); over = λ k j l low high. absurd (omega (arith, l)) }

-- the stretch that ends with the row before one begins before that one
pub begins_before : {stays : List Stay} {rows since until : List ℕ} {end : ℕ} → AreStretches stays rows since until end → (row start : ℕ) → 0 < row
    → row ≤ end → start ≡ get_or since (row - 1) start → (start ≡ get_or since (row - 1) 0) × (start < row)
begins_before {since = since} {end = end} are row start some most is =
    let less : row - 1 < end = omega (arith, some, most) in
    let within : row - 1 < length since = let many = are.firsts in omega (arith, many, less) in
    let value = get_or_read since (row - 1) start within is 0 in
    let low = are.within (row - 1) less in
    (value, omega (arith, value, low, some))

pub one_stretch_more : (stays : List Stay) (rows since until : List ℕ) (row first last : ℕ) → AreStretches stays rows since until row → first ≤ row
    → ((j : ℕ) → first ≤ j → j ≤ row → EndsBy stays (get_or rows j 0) last)
    → AreStretches stays rows (since ++ first ∷ []) (until ++ last ∷ []) (row + 1)
one_stretch_more stays rows since until row first last are within over = record {
  firsts = length_push since first ∙ ap (λ (n : ℕ). n + 1) are.firsts;
  lasts = length_push until last ∙ ap (λ (n : ℕ). n + 1) are.lasts;
  within = λ k l. elim (cases_lt k row) [
    | inl low ↦ let up = are.within k low in omega (arith, since_at k low, up)
    | inr past ↦ let here : k ≡ row = omega (arith, l, past) in omega (arith, first_at k here, within, here)
  ];
  over = λ k j l low high. elim (cases_lt k row) [
    | inl before ↦
        subst (EndsBy stays (get_or rows j 0)) (sym (until_at k before)) (are.over k j before (omega (arith, since_at k before, low)) high)
    | inr past ↦
        let here : k ≡ row = omega (arith, l, past) in
        subst (EndsBy stays (get_or rows j 0)) (sym (last_at k here)) (over j (omega (arith, first_at k here, low)) (omega (arith, high, here)))
  ];
} where
  since_at : (k : ℕ) → k < row → get_or (since ++ first ∷ []) k 0 ≡ get_or since k 0
  since_at k low = get_or_append_left since (first ∷ []) 0 k (let many = are.firsts in omega (arith, many, low))

  until_at : (k : ℕ) → k < row → get_or (until ++ last ∷ []) k 0 ≡ get_or until k 0
  until_at k low = get_or_append_left until (last ∷ []) 0 k (let many = are.lasts in omega (arith, many, low))

  first_at : (k : ℕ) → k ≡ row → get_or (since ++ first ∷ []) k 0 ≡ first
  first_at k here = get_or_push since first 0 k (are.firsts ∙ sym here)

  last_at : (k : ℕ) → k ≡ row → get_or (until ++ last ∷ []) k 0 ≡ last
  last_at k here = get_or_push until last 0 k (are.lasts ∙ sym here)
