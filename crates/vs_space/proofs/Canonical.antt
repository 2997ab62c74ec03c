-- Canonical addresses: the bits from the highest translated one on are all 0, or all 1.
use Rattle.std.proofs.Common.{◌≡◌, ℕ, ◌+◌, ◌-◌, ◌*◌, ◌/◌, ◌%◌, ◌^◌, ◌<◌, ◌≤◌, ◌↔◌, ◌⊎◌, inl, inr, ⊎_elim, sym, ap, subst, ◌∙◌, arith, pow_pos}
use lib.Pow.{pow-add, shr-shr}
use Rattle.std.proofs.Math.Nat.{div-lt_iff_lt-mul}
use Rattle.std.proofs.lemmas.Bool.{cases_lt}
use Rattle.vs_types.specs.Depth.{levels, half_bytes, index_at, IsCanonical}
use Rattle.vs_types.specs.declared.addresses.depth.Depth.{Depth}
use Rattle.vs_types.proofs.Pages.{three_levels, canonical_means}
use Rattle.vs_walk.proofs.Walks.{few_levels}

-- the first and the last of the stretches of this many bytes, by their quotients
first_or_last : (bytes last a : ℕ) → 0 < bytes → ((a < bytes) ⊎ ((last * bytes ≤ a) × (a < last * bytes + bytes))) ↔ ((a / bytes ≡ 0) ⊎ (a / bytes ≡ last))
first_or_last bytes last a some = (
  λ h. ⊎_elim
      (λ low. let quotient = (div-lt_iff_lt-mul some).1 (subst (λ n. a < n) (sym one) low) in inl (omega arith))
      (λ high.
      let below = (div-lt_iff_lt-mul some).1 (subst (λ n. a < n) (sym next) high.1) in
      inr (⊎_elim
      (λ (less : a / bytes < last). let before = (div-lt_iff_lt-mul some).0 less in absurd (omega (arith, before, high.0)))
      (λ (le : last ≤ a / bytes). omega arith)
      (cases_lt (a / bytes) last)))
      h,
  λ h. ⊎_elim
      (λ low. let quotient : a / bytes < 1 = omega arith in inl (subst (λ n. a < n) one ((div-lt_iff_lt-mul some).0 quotient)))
      (λ high.
      let quotient : a / bytes < last + 1 = omega arith in
      inr (
        ⊎_elim
            (λ (before : a < last * bytes). let less = (div-lt_iff_lt-mul some).1 before in absurd (omega (arith, less, high)))
            (λ (le : last * bytes ≤ a). le)
            (cases_lt a (last * bytes)),
        subst (λ n. a < n) next ((div-lt_iff_lt-mul some).0 quotient),
      ))
      h,
) where
  one : 1 * bytes ≡ bytes
  one = grind arith

  next : (last + 1) * bytes ≡ last * bytes + bytes
  next = grind arith

-- half of the bits above the highest translated one, as a number of stretches
abbrev pub odd_bits : Depth → ℕ
odd_bits depth = 2 ^ (63 - (12 + 9 * levels depth - 1))

halves : (depth : Depth) → 2 ^ 64 ≡ (2 * odd_bits depth - 1) * half_bytes depth + half_bytes depth
halves depth = by (half_bytes depth) (odd_bits depth) (pow_pos (63 - (12 + 9 * levels depth - 1))) whole where
  exponent : 64 ≡ 1 + (63 - (12 + 9 * levels depth - 1)) + (12 + 9 * levels depth - 1)
  exponent = omega (arith, few_levels depth, three_levels depth)

  whole : 2 ^ 64 ≡ 2 * odd_bits depth * half_bytes depth
  whole = ap (λ n. 2 ^ n) exponent ∙ pow-add 2 (1 + (63 - (12 + 9 * levels depth - 1))) (12 + 9 * levels depth - 1)
      ∙ ap (λ n. n * half_bytes depth) (pow-add 2 1 (63 - (12 + 9 * levels depth - 1)))

  by : (half odd : ℕ) → 0 < odd → 2 ^ 64 ≡ 2 * odd * half → 2 ^ 64 ≡ (2 * odd - 1) * half + half
  by half odd some e = e ∙ product (2 * odd - 1) half (2 * odd) (omega arith) where
    product : (p half v : ℕ) → v ≡ p + 1 → v * half ≡ p * half + half
    product p half v is = ap (λ n. n * half) is ∙ grind arith

-- canonical: in the first half, or in the last stretch of as many bytes
pub canonical_halves : (depth : Depth) (a : ℕ) → IsCanonical depth a ↔ ((a / half_bytes depth ≡ 0) ⊎ (a / half_bytes depth ≡ 2 * odd_bits depth - 1))
canonical_halves depth a = (
  λ is. stretches.0 (⊎_elim (λ low. inl low) (λ high. inr (omega (arith, halves depth, high.0), omega (arith, halves depth, high.1)))
      ((canonical_means depth a).0 is)),
  λ h. (canonical_means depth a).1 (⊎_elim (λ low. inl low) (λ high. inr (omega (arith, halves depth, high.0), omega (arith, halves depth, high.1)))
      (stretches.1 h)),
) where
  stretches : ((a < half_bytes depth) ⊎ (((2 * odd_bits depth - 1) * half_bytes depth ≤ a)
      × (a < (2 * odd_bits depth - 1) * half_bytes depth + half_bytes depth)))
      ↔ ((a / half_bytes depth ≡ 0) ⊎ (a / half_bytes depth ≡ 2 * odd_bits depth - 1))
  stretches = first_or_last (half_bytes depth) (2 * odd_bits depth - 1) a (pow_pos (12 + 9 * levels depth - 1))

-- addresses with the same bits from the highest translated one on are canonical together
pub half_same : (depth : Depth) (a b : ℕ) → IsCanonical depth a → a / half_bytes depth ≡ b / half_bytes depth → IsCanonical depth b
half_same depth a b is same = (canonical_halves depth b).1
    (⊎_elim (λ low. inl (sym same ∙ low)) (λ high. inr (sym same ∙ high)) ((canonical_halves depth a).0 is))

-- the highest index of a canonical address determines all above
pub top_same : (depth : Depth) (a b : ℕ) → IsCanonical depth a → IsCanonical depth b → index_at (levels depth) a ≡ index_at (levels depth) b
    → a / 2 ^ (12 + 9 * (levels depth - 1)) ≡ b / 2 ^ (12 + 9 * (levels depth - 1))
top_same depth a b is_a is_b same =
    by (a / 2 ^ (12 + 9 * (levels depth - 1))) (b / 2 ^ (12 + 9 * (levels depth - 1))) (odd_bits depth) (pow_pos (63 - (12 + 9 * levels depth - 1)))
    (top a is_a) (top b is_b) (ap (λ n. a / 2 ^ n % 512) (sym own) ∙ same ∙ ap (λ n. b / 2 ^ n % 512) own)
  where
    own : 3 + 9 * levels depth ≡ 12 + 9 * (levels depth - 1)
    own = omega (arith, three_levels depth)

    half : 12 + 9 * levels depth - 1 ≡ 12 + 9 * (levels depth - 1) + 8
    half = omega (arith, three_levels depth)

    top : (c : ℕ) → IsCanonical depth c → (c / 2 ^ (12 + 9 * (levels depth - 1)) / 256 ≡ 0)
        ⊎ (c / 2 ^ (12 + 9 * (levels depth - 1)) / 256 ≡ 2 * odd_bits depth - 1)
    top c is = subst (λ n. (n ≡ 0) ⊎ (n ≡ 2 * odd_bits depth - 1)) (ap (λ n. c / 2 ^ n) half ∙ sym (shr-shr c (12 + 9 * (levels depth - 1)) 8))
        ((canonical_halves depth c).0 is)

    by : (x y odd : ℕ) → 0 < odd → (x / 256 ≡ 0) ⊎ (x / 256 ≡ 2 * odd - 1) → (y / 256 ≡ 0) ⊎ (y / 256 ≡ 2 * odd - 1) → x % 512 ≡ y % 512 → x ≡ y
    by x y odd some of_x of_y e = ⊎_elim
        (λ low. ⊎_elim (λ other. omega arith) (λ other. omega arith) of_y)
        (λ high. ⊎_elim (λ other. omega arith) (λ other. omega arith) of_y)
        of_x
