-- Where the entries of a table begin, and the parts of an aligned stretch of addresses.
use Rattle.std.proofs.Common.{◌≡◌, ℕ, suc, ◌+◌, ◌*◌, ◌/◌, ◌%◌, ◌^◌, ◌<◌, ◌≤◌, ⊎_elim, sym, ap, subst, ◌∙◌, mod-lt, arith}
use lib.Pow.{pow_pos, pow-add, split, shr-shr, shl-shr}
use Rattle.std.proofs.lemmas.Nat.{div-mul-add, mod-mul-add}
use Rattle.std.proofs.Math.Nat.{mul_assoc, mul_comm}
use Rattle.std.proofs.lemmas.Bool.{cases_lt}
use Rattle.vs_types.specs.Depth.{levels, table_bytes, index_at, IsCanonical}
use Rattle.vs_types.specs.declared.addresses.depth.Depth.{Depth}
use Rattle.vs_space.specs.Path.{SamePath}
use Rattle.vs_space.proofs.Regions.{stretch_same, in_block}
use Rattle.vs_space.proofs.Prunes.{canonical_stretch}

-- an address of an aligned stretch of 512 parts, by its part
pub part : (e base b : ℕ) → base % 2 ^ (e + 9) ≡ 0 → base ≤ b → b < base + 2 ^ (e + 9)
    → (base + b / 2 ^ e % 512 * 2 ^ e ≤ b) × (b < base + (b / 2 ^ e % 512 + 1) * 2 ^ e)
part e base b at low high =
    let same = in_block (e + 9) base b at low high in
    let whole = split base (e + 9) in
    let double : 2 ^ (e + 9) ≡ 2 ^ e * 512 = pow-add 2 e 9 in
    let x = b / 2 ^ e in
    let high_part : x / 512 ≡ b / 2 ^ (e + 9) = shr-shr b e 9 in
    let parts : x ≡ x / 512 * 512 + x % 512 = div_mod x in
    let own = split b e in
    let rest : b % 2 ^ e < 2 ^ e = mod-lt b (pow_pos e) in
    sums (2 ^ e) base b x (base / 2 ^ (e + 9)) (x % 512) (b % 2 ^ e)
    (begins (2 ^ e) (2 ^ (e + 9)) (base / 2 ^ (e + 9)) base double (omega (arith, whole, at)))
    (parts ∙ ap (λ y. y * 512 + x % 512) (high_part ∙ sym same)) (sym own) rest
  where
    div_mod : (x : ℕ) → x ≡ x / 512 * 512 + x % 512
    div_mod x = omega arith

    begins : (u v q base : ℕ) → v ≡ u * 512 → q * v ≡ base → q * 512 * u ≡ base
    begins u v q base e f = mul_assoc q 512 u ∙ ap (λ x. q * x) (mul_comm 512 u ∙ sym e) ∙ f

    sums : (u base b x q i r : ℕ) → q * 512 * u ≡ base → x ≡ q * 512 + i → b ≡ x * u + r → r < u → (base + i * u ≤ b) × (b < base + (i + 1) * u)
    sums u base b x q i r p s t lt =
        let product : (q * 512 + i) * u ≡ q * 512 * u + i * u = grind arith in
        let more : (i + 1) * u ≡ i * u + u = grind arith in
        let all : b ≡ (q * 512 + i) * u + r = t ∙ ap (λ y. y * u + r) s in
        (omega arith, omega arith)

-- the entry at an index of the table of a level that begins at the base: where it begins
module _ (depth : Depth) (level base index next : ℕ) (canonical : IsCanonical depth base) (below : level < levels depth)
    (aligned : base % table_bytes level ≡ 0)
    (within : index < 512) (next_is : next ≡ base + index * 2 ^ (3 + 9 * level)) where
  wide : 12 + 9 * level ≡ 3 + 9 * level + 9
  wide = omega arith

  aligned_wide : base % 2 ^ (3 + 9 * level + 9) ≡ 0
  aligned_wide = subst (λ n. base % 2 ^ n ≡ 0) wide aligned

  quotient_wide : base / 2 ^ (3 + 9 * level + 9) * 2 ^ (3 + 9 * level + 9) ≡ base
  quotient_wide = let whole = split base (3 + 9 * level + 9) in omega (arith, whole, aligned_wide)

  sum_is : next ≡ (base / 2 ^ (3 + 9 * level + 9) * 512 + index) * 2 ^ (3 + 9 * level)
  sum_is = by (base / 2 ^ (3 + 9 * level + 9)) (2 ^ (3 + 9 * level)) (2 ^ (3 + 9 * level + 9)) (pow-add 2 (3 + 9 * level) 9) quotient_wide next_is where
    by : (q u v : ℕ) → v ≡ u * 512 → q * v ≡ base → next ≡ base + index * u → next ≡ (q * 512 + index) * u
    by q u v e f g =
        let product : (q * 512 + index) * u ≡ q * 512 * u + index * u = grind arith in
        let begins : q * 512 * u ≡ base = mul_assoc q 512 u ∙ ap (λ x. q * x) (mul_comm 512 u ∙ sym e) ∙ f in
        omega arith

  quotient_next : next / 2 ^ (3 + 9 * level) ≡ base / 2 ^ (3 + 9 * level + 9) * 512 + index
  quotient_next = ap (λ x. x / 2 ^ (3 + 9 * level)) sum_is ∙ shl-shr (base / 2 ^ (3 + 9 * level + 9) * 512 + index) (3 + 9 * level)

  pub next_index : index_at level next ≡ index
  next_index = ap (λ x. x % 512) quotient_next ∙ mod-mul-add (base / 2 ^ (3 + 9 * level + 9)) 512 index within

  quotient_same : base / 2 ^ (12 + 9 * level) ≡ next / 2 ^ (12 + 9 * level)
  quotient_same = ap (λ n. base / 2 ^ n) wide
      ∙ sym (sym (shr-shr next (3 + 9 * level) 9) ∙ ap (λ y. y / 512) quotient_next ∙ div-mul-add (base / 2 ^ (3 + 9 * level + 9)) 512 index within)
      ∙ ap (λ n. next / 2 ^ n) (sym wide)

  pub next_path : SamePath (levels depth) (suc level) base next
  next_path = stretch_same (levels depth) level base next quotient_same

  pub next_canonical : IsCanonical depth next
  next_canonical = canonical_stretch depth base next (12 + 9 * level) canonical (omega (arith, below)) quotient_same

  pub next_aligned : next % 2 ^ (3 + 9 * level) ≡ 0
  next_aligned = ap (λ x. x % 2 ^ (3 + 9 * level)) (sum_is ∙ sym (plus_zero _))
      ∙ mod-mul-add (base / 2 ^ (3 + 9 * level + 9) * 512 + index) (2 ^ (3 + 9 * level)) 0 (pow_pos (3 + 9 * level)) where
        plus_zero : (n : ℕ) → n + 0 ≡ n
        plus_zero n = omega arith

  pub from_base : base ≤ next
  from_base = omega (arith, next_is)

  -- an address of the table before that entry has an earlier index, and takes the path to the table
  pub earlier : (b : ℕ) → base ≤ b → b < next → (index_at level b < index) × SamePath (levels depth) (suc level) base b
  earlier b later high =
      let bytes : index * 2 ^ (3 + 9 * level) ≤ 2 ^ (3 + 9 * level + 9) =
      room (2 ^ (3 + 9 * level)) (2 ^ (3 + 9 * level + 9)) (pow-add 2 (3 + 9 * level) 9) within in
      let inside : b < base + 2 ^ (3 + 9 * level + 9) = omega (arith, next_is, bytes, high) in
      let places = part (3 + 9 * level) base b aligned_wide later inside in
      let low : index_at level b < index = less (2 ^ (3 + 9 * level)) base b (index_at level b) index (pow_pos (3 + 9 * level)) places.0
      (omega (arith, next_is, high)) in
      let wide_same : base / 2 ^ (12 + 9 * level) ≡ b / 2 ^ (12 + 9 * level) =
      subst (λ n. base / 2 ^ n ≡ b / 2 ^ n) (sym wide) (in_block (3 + 9 * level + 9) base b aligned_wide later inside) in
      (low, stretch_same (levels depth) level base b wide_same)
    where
      room : (u v : ℕ) → v ≡ u * 512 → index < 512 → index * u ≤ v
      room u v e lt = let le : index ≤ 512 = omega arith in let more : index * u ≤ 512 * u = grind arith in let same : 512 * u ≡ u * 512 = mul_comm 512 u in
          omega arith

      less : (u base b i index : ℕ) → 0 < u → base + i * u ≤ b → b < base + index * u → i < index
      less u base b i index some lo hi = ⊎_elim (λ (lt : i < index). lt)
          (λ (le : index ≤ i). let more : index * u ≤ i * u = grind arith in absurd (omega arith)) (cases_lt i index)
