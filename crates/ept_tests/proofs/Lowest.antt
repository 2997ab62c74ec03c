-- The lowest reserved bit of a word.
use Rattle.std.proofs.Common.{◌≡◌, ℕ, zero, suc, ◌+◌, ◌-◌, ◌*◌, ◌/◌, ◌%◌, ◌^◌, ◌<◌, ◌≤◌, inl, inr, ⊎_elim, Bool, true, false, refl, sym, ap, subst, ◌∙◌, arith, pow_pos}
use lib.Pow.{pow_mono}
use Rattle.std.specs.Prelude.{MatchBool, not, if◌then◌else◌, ◌==◌, ◌&&◌}
use Rattle.std.specs.Int.{bit_at, w64, trailing_zeros}
use Rattle.vs_types.specs.Depth.{entry_bytes}
use Rattle.vs_types.specs.Format.{IsReservedBitOf}
use Rattle.vs_types.specs.declared.entries.kind.EntryKind.TheVariants.{Reserved}
use Rattle.vs_types.proofs.ReservedBits.{bit_of_part, lowest}
use Rattle.ept_tests.specs.Ept.{format, is_leaf, kind, writes_alone}
use Rattle.ept_tests.specs.declared.guest.Ept.{Ept}
use Rattle.ept_tests.proofs.EptWords.{offset_from, said}

-- a word that allows writes alone has bit 1 set and bit 0 not
alone_is : (word : ℕ) → writes_alone word ≡ true → (bit_at word 1 ≡ 1) × (bit_at word 0 ≡ 0)
alone_is word is = grind arith

alone_from : (word : ℕ) → bit_at word 1 ≡ 1 → bit_at word 0 ≡ 0 → writes_alone word ≡ true
alone_from word one zeroth = grind arith

-- what reserved bits of an entry there are, by whether it maps a page
abbrev Of : ℕ → Bool → ℕ → Type 0
Of level leaf bit = MatchBool leaf ((12 ≤ bit) × (bit < 3 + 9 * level)) ((3 ≤ bit) × (bit < 8))

three_up : (level : ℕ) (leaf : Bool) (bit : ℕ) → Of level leaf bit → 3 ≤ bit
three_up level true bit is = omega (arith, is.0)
three_up level false bit is = is.0

pub lowest_of_writes : (ept : Ept) (level word : ℕ) → writes_alone word ≡ true → IsReservedBitOf (format ept) level word 1
lowest_of_writes ept level word is =
    let bits = alone_is word is in
    record {
      set = bits.0;
      is = inl (refl, bits.1);
      lowest = λ other set reserved. ⊎_elim (λ one. omega (arith, one.0))
          (⊎_elim (λ high. omega (arith, high.0)) (λ low. omega (arith, three_up level (is_leaf level word) other low))) reserved;
    }

-- bit 1 is not reserved where reads are allowed, or no writes
not_one : (word other : ℕ) → writes_alone word ≡ false → bit_at word other ≡ 1 → other ≡ 1 → bit_at word 0 ≡ 0 → ⊥
not_one word other none set one zeroth =
    let alone : writes_alone word ≡ true = alone_from word (ap (bit_at word) (sym one) ∙ set) zeroth in
    let bad : true ≡ false = sym alone ∙ none in cc

-- the lowest bit of those that are reserved in a leaf, and in an entry that is none
pub lowest_of_leaf : (ept : Ept) (level word part : ℕ) → is_leaf level word ≡ true → level ≤ 3 → writes_alone word ≡ false
    → part ≡ word % entry_bytes level / 2 ^ 12 → 0 < part → IsReservedBitOf (format ept) level word (12 + trailing_zeros w64 part)
lowest_of_leaf ept zero word part leaf few alone is some = absurd (omega (arith, is, some))
lowest_of_leaf ept (suc below) word part leaf few alone is some =
    let fits : part < 2 ^ (9 * below) = small (2 ^ (9 * below)) (is ∙ offset_from below word) (pow_pos (9 * below)) in
    let most : 2 ^ (9 * below) ≤ 2 ^ 18 = pow_mono {j = 18} (omega (arith, few)) in
    let low = lowest word 12 (3 + 9 * suc below) (9 * below) part is (omega arith) some fits (omega (arith, fits, most)) (pow_pos (3 + 9 * suc below))
    (omega arith) in
    record {
      set = low.set;
      is = inr (inr (subst (λ l. Of (suc below) l (12 + trailing_zeros w64 part)) (sym leaf) (low.above, low.below)));
      lowest = λ other set reserved. ⊎_elim (λ one. absurd (not_one word other alone set one.0 one.1))
          (⊎_elim (λ high. omega (arith, high.0, low.below, few)) (λ of. let (above, under) = subst (λ l. Of (suc below) l other) leaf of in
          low.none other above under set)) reserved;
    } where
      small : (n : ℕ) → part ≡ word / 2 ^ 12 % n → 0 < n → part < n
      small n is some = omega (arith, is, some)

pub lowest_of_link : (ept : Ept) (level word part : ℕ) → is_leaf level word ≡ false → writes_alone word ≡ false → part ≡ word % 2 ^ 8 / 2 ^ 3
    → 0 < part → IsReservedBitOf (format ept) level word (3 + trailing_zeros w64 part)
lowest_of_link ept level word part leaf alone is some =
    let low = lowest word 3 8 5 part is refl some (omega (arith, is)) (omega (arith, is)) (omega arith) (omega arith) in
    record {
      set = low.set;
      is = inr (inr (subst (λ l. Of level l (3 + trailing_zeros w64 part)) (sym leaf) (low.above, low.below)));
      lowest = λ other set reserved. ⊎_elim (λ one. absurd (not_one word other alone set one.0 one.1))
          (⊎_elim (λ high. omega (arith, high.0, low.below)) (λ of. let (above, under) = subst (λ l. Of level l other) leaf of in
          low.none other above under set)) reserved;
    }

-- ---- a bit above an address

-- some bit above an address is set where no other is reserved
high_some : (m l : Bool) (a b c d h o t p n : ℕ) → (not (a == 1) && (b == 1)) ≡ false → (if l then o else t) ≡ 0 → said m l a b c d h o t p n ≡ Reserved
    → 0 < h
high_some m l a b c d (suc h) o t p n alone none is = omega arith
high_some m true a b c d zero o t p n alone none is = grind arith
high_some m false a b c d zero o t p n alone none is = grind arith

none_set : (word from k other : ℕ) → 0 < 2 ^ k → 0 < 2 ^ from → from ≤ other → other < k → word % 2 ^ k / 2 ^ from ≡ 0 → bit_at word other ≡ 1 → ⊥
none_set word from k other more less above below none set =
    let bit : bit_at word other ≡ 0 = bit_of_part word from k other more less above below ∙ ap (λ p. bit_at p (other - from)) none ∙ of_zero
    (2 ^ (other - from)) in
    let bad : 1 ≡ 0 = sym set ∙ bit in omega (arith, bad) where
      of_zero : (n : ℕ) → 0 / n % 2 ≡ 0
      of_zero n = omega arith

none_of : (level word : ℕ) (leaf : Bool) → (if leaf then word % entry_bytes level / 2 ^ 12 else word % 2 ^ 8 / 2 ^ 3) ≡ 0 → (other : ℕ)
    → bit_at word other ≡ 1 → Of level leaf other → ⊥
none_of level word true none other set of = none_set word 12 (3 + 9 * level) other (pow_pos (3 + 9 * level)) (omega arith) of.0 of.1 none set
none_of level word false none other set of = none_set word 3 8 other (omega arith) (omega arith) of.0 of.1 none set

pub lowest_of_high : (ept : Ept) (level word part : ℕ) → writes_alone word ≡ false
    → (if is_leaf level word then word % entry_bytes level / 2 ^ 12 else word % 2 ^ 8 / 2 ^ 3) ≡ 0 → kind ept level word ≡ Reserved
    → part ≡ word % 2 ^ 52 / 2 ^ 46 → IsReservedBitOf (format ept) level word (46 + trailing_zeros w64 part)
lowest_of_high ept level word part alone none reserved is =
    let some : 0 < word % 2 ^ 52 / 2 ^ 46 =
    high_some ept.by_mode (is_leaf level word) (bit_at word 0) (bit_at word 1) (bit_at word 2) (bit_at word 10) (word % 2 ^ 52 / 2 ^ 46)
    (word % entry_bytes level / 2 ^ 12) (word % 2 ^ 8 / 2 ^ 3) (word % 2 ^ 52 / entry_bytes level * entry_bytes level) (word % 2 ^ 52 / 2 ^ 12) alone none
    reserved in
    let low = lowest word 46 52 6 part is refl (omega (arith, is, some)) (omega (arith, is)) (omega (arith, is)) (omega arith) (omega arith) in
    record {
      set = low.set;
      is = inr (inl (low.above, low.below));
      lowest = λ other set at. ⊎_elim (λ one. absurd (not_one word other alone set one.0 one.1))
          (⊎_elim (λ high. low.none other high.0 high.1 set) (λ of. absurd (none_of level word (is_leaf level word) none other set of))) at;
    }
