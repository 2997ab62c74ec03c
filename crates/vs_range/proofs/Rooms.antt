-- How far pages reach.
use Rattle.std.proofs.Common.{◌≡◌, ℕ, ◌+◌, ◌*◌, ◌-◌, ◌^◌, ◌<◌, ◌≤◌, ◌⊎◌, inl, inr, ⊎_elim, ap, subst, min, arith}
use Rattle.std.proofs.lemmas.Bool.{cases_lt}
use Rattle.vs_types.specs.Page.{bytes_of}
use Rattle.vs_types.specs.declared.addresses.page.Size.{Size}
use lib.Pow.{pow_mono}

module _ (size : Size) (phys end bits count : ℕ) (end_is : end ≡ 2 ^ min bits 51) (within : phys ≤ end)
    (fits : count * bytes_of size ≤ end - phys) where
  pub room_low : phys + count * bytes_of size ≤ 2 ^ 51
  room_low =
      let le : min bits 51 ≤ 51 = omega arith in
      let low : 2 ^ min bits 51 ≤ 2 ^ 51 = pow_mono {j = 51} le in
      omega arith

  pub room_own : phys + count * bytes_of size ≤ 2 ^ bits
  room_own =
      let le : min bits 51 ≤ bits = omega arith in
      let own : 2 ^ min bits 51 ≤ 2 ^ bits = pow_mono {j = bits} le in
      omega arith

-- where fewer than 512 are said, one more would go beyond the last physical address
pub room_most : (size : Size) (phys end bits counted result : ℕ) → end ≡ 2 ^ min bits 51 → phys ≤ end → end - phys < (counted + 1) * bytes_of size
    → (result < 512 → counted ≡ result) → result ≤ 512 → (result ≡ 512) ⊎ (2 ^ min bits 51 < phys + (result + 1) * bytes_of size)
room_most size phys end bits counted result end_is within most same few = ⊎_elim
    (λ (low : result < 512).
    let less : end - phys < (result + 1) * bytes_of size = subst (λ n. end - phys < (n + 1) * bytes_of size) (same low) most in
    inr (subst (λ e. e < phys + (result + 1) * bytes_of size) end_is (omega (arith, less, within))))
    (λ (high : 512 ≤ result). inl (omega arith))
    (cases_lt result 512)

-- the table ends, or the range
pub here_most : (index result left bytes one : ℕ) → (index + result < 512 → left ≡ result) → index + result ≤ 512 → bytes < (left + 1) * one
    → (index + result ≡ 512) ⊎ (bytes < (result + 1) * one)
here_most index result left bytes one same few most = ⊎_elim
    (λ (low : index + result < 512). inr (subst (λ n. bytes < (n + 1) * one) (same low) most))
    (λ (high : 512 ≤ index + result). inl (omega arith))
    (cases_lt (index + result) 512)

-- the table ends, or the range, or the physical addresses
pub mapped_most : (index here own result bytes one phys end : ℕ) → (here ≤ own → here ≡ result) → (own < here → own ≡ result)
    → index + here ≤ 512 → (index + here ≡ 512) ⊎ (bytes < (here + 1) * one) → (own ≡ 512) ⊎ (end < phys + (own + 1) * one)
    → (index + result ≡ 512) ⊎ ((bytes < (result + 1) * one) ⊎ (end < phys + (result + 1) * one))
mapped_most index here own result bytes one phys end first second few table last = ⊎_elim
    (λ (less : own < here). ⊎_elim
    (λ (e : own ≡ 512). inl (omega (arith, few, less, second less)))
    (λ (e : end < phys + (own + 1) * one). inr (inr (subst (λ n. end < phys + (n + 1) * one) (second less) e)))
    last)
    (λ (le : here ≤ own). ⊎_elim
    (λ (e : index + here ≡ 512). inl (subst (λ n. index + n ≡ 512) (first le) e))
    (λ (e : bytes < (here + 1) * one). inr (inl (subst (λ n. bytes < (n + 1) * one) (first le) e)))
    table)
    (cases_lt own here)

-- where no page fits that follows on, the first goes beyond the physical addresses
pub no_room : (one phys bits : ℕ) {here own : ℕ} → phys + 1 * one ≤ 2 ^ 51 → phys + 1 * one ≤ 2 ^ bits → 1 ≤ here → (here ≤ own → here ≡ 0)
    → (own < here → own ≡ 0) → (own ≡ 512) ⊎ (2 ^ min bits 51 < phys + (own + 1) * one) → ⊥
no_room one phys bits {here} {own} low within some first second last = ⊎_elim
    (λ (less : own < here). by own (second less) last)
    (λ (le : here ≤ own). omega (arith, first le, some))
    (cases_lt own here) where
      by : (n : ℕ) → n ≡ 0 → (n ≡ 512) ⊎ (2 ^ min bits 51 < phys + (n + 1) * one) → ⊥
      by n none past = ⊎_elim
          (λ (e : n ≡ 512). omega (arith, e, none))
          (λ (far : 2 ^ min bits 51 < phys + (n + 1) * one).
          let over : 2 ^ min bits 51 < phys + 1 * one = subst (λ m. 2 ^ min bits 51 < phys + (m + 1) * one) none far in
          ⊎_elim
          (λ (few : bits < 51).
          let same : min bits 51 ≡ bits = omega arith in
          let is : 2 ^ min bits 51 ≡ 2 ^ bits = ap (λ k. 2 ^ k) same in
          omega (arith, is, over, within))
          (λ (many : 51 ≤ bits).
          let same : min bits 51 ≡ 51 = omega arith in
          let is : 2 ^ min bits 51 ≡ 2 ^ 51 = ap (λ k. 2 ^ k) same in
          omega (arith, is, over, low))
          (cases_lt bits 51))
          past
