-- Reserved bits that are set.
use Rattle.std.proofs.Common.{◌≡◌, ℕ, Bool, true, false, zero, suc, ◌+◌, ◌-◌, ◌*◌, ◌/◌, ◌%◌, ◌^◌, ◌<◌, ◌≤◌, refl, sym, ap, subst, ◌∙◌, ⊎_elim, arith}
use Rattle.std.specs.Prelude.{MatchBool}
use Rattle.std.specs.Int.{bit_at, w64, trailing_zeros}
use Rattle.std.proofs.lemmas.Nat.Bits.{bit_at-trailing_zeros, bit_at_above, bit_at_cat_high, bit_at_cat_low}
use Rattle.std.proofs.lemmas.Bool.{cases_lt}
use Rattle.std.proofs.lemmas.Nat.{div-add-mod'}
use Rattle.vs_types.specs.Depth.{entry_bytes}
use Rattle.vs_types.specs.Entry.{is_leaf, meaning}
use Rattle.vs_types.specs.declared.entries.entry.Meaning.TheVariants as entry
use Rattle.vs_types.specs.Bits.{IsLowestReservedBit}

-- the lowest of some bits of a word, from this one to below k, where one is set
pub record IsLowest (word from k : ℕ) (bit : ℕ) : Type 0 where
  pub set : bit_at word bit ≡ 1
  pub above : from ≤ bit
  pub below : bit < k
  pub none : (other : ℕ) → from ≤ other → other < k → bit_at word other ≡ 1 → bit ≤ other

-- the bits of a part of a word are those of the word from there on
pub bit_of_part : (word from k bit : ℕ) → 0 < 2 ^ k → 0 < 2 ^ from → from ≤ bit → bit < k → bit_at word bit ≡ bit_at (word % 2 ^ k / 2 ^ from) (bit - from)
bit_of_part word from k bit more less above below =
    let cut : word ≡ word / 2 ^ k * 2 ^ k + word % 2 ^ k = omega arith in
    let high : word % 2 ^ k ≡ word % 2 ^ k / 2 ^ from * 2 ^ from + word % 2 ^ k % 2 ^ from = sym (div-add-mod' (word % 2 ^ k) (2 ^ from)) in
    ap (λ w. bit_at w bit) cut ∙ bit_at_cat_low (word / 2 ^ k) k (word % 2 ^ k) bit below
    ∙ ap (λ w. bit_at w bit) high ∙ bit_at_cat_high (word % 2 ^ k / 2 ^ from) from (word % 2 ^ k % 2 ^ from) bit (omega arith) above

pub lowest : (word from k j part : ℕ) → part ≡ word % 2 ^ k / 2 ^ from → k ≡ from + j → 0 < part → part < 2 ^ j → part < 2 ^ 64 → 0 < 2 ^ k → 0 < 2 ^ from
    → IsLowest word from k (from + trailing_zeros w64 part)
lowest word from k j part is same some few fits more less =
    let found = bit_at-trailing_zeros w64 part some fits in
    let place : ℕ = trailing_zeros w64 part in
    let low : place < j = ⊎_elim (λ h. h) (λ h. absurd (omega (arith, found.1, bit_at_above part j place few h))) (cases_lt place j) in
    let of_part : (bit : ℕ) → from ≤ bit → bit < k → bit_at word bit ≡ bit_at part (bit - from) = λ bit above below.
    bit_of_part word from k bit more less above below ∙ ap (λ p. bit_at p (bit - from)) (sym is) in
    record {
      set = of_part (from + place) (omega arith) (omega arith) ∙ ap (bit_at part) (back place) ∙ found.1;
      above = omega arith;
      below = omega arith;
      none = λ other above below is. ⊎_elim
          (λ before. absurd (never (bit_at word other) is (of_part other above below ∙ found.2 (other - from) (omega (arith, above, before)))))
          (λ behind. behind) (cases_lt other (from + place));
    } where
      back : (place : ℕ) → from + place - from ≡ place
      back place = omega arith

      never : (bit : ℕ) → bit ≡ 1 → bit ≡ 0 → ⊥
      never bit one none = omega (arith, one, none)

-- at the levels where a page can be large the word maps one
leaf_of_two : (word : ℕ) → meaning 2 word ≡ entry.Reserved → (is_leaf 2 word ≡ true) × (0 < word % 2 ^ 21 / 2 ^ 13)
leaf_of_two word is = grind arith

leaf_of_three : (word : ℕ) → meaning 3 word ≡ entry.Reserved → (is_leaf 3 word ≡ true) × (0 < word % 2 ^ 30 / 2 ^ 13)
leaf_of_three word is = grind arith

none_of_one : (word : ℕ) → meaning 1 word ≡ entry.Reserved → ⊥
none_of_one word is = grind arith

none_of_zero : (word : ℕ) → meaning 0 word ≡ entry.Reserved → ⊥
none_of_zero word is = grind arith

from_lowest : (level word bit : ℕ) → is_leaf level word ≡ true → IsLowest word 13 (3 + 9 * level) bit → IsLowestReservedBit level word bit
from_lowest level word bit leaf low = record {
  is = record { set = low.set; reserved = subst (which bit) (sym leaf) (low.above, low.below) };
  lowest = λ other at. let (above, below) = subst (which other) leaf at.reserved in low.none other above below at.set;
} where
  which : ℕ → Bool → Type 0
  which bit b = MatchBool b ((13 ≤ bit) × (bit < 3 + 9 * level)) (bit ≡ 7)

-- above the levels whose entries map pages it is bit 7
no_leaf : (level word : ℕ) → 3 < level → is_leaf level word ≡ false
no_leaf level word high = grind arith

set_in_table : (level word : ℕ) → is_leaf level word ≡ false → meaning level word ≡ entry.Reserved → bit_at word 7 ≡ 1
set_in_table level word leaf is = grind arith

pub high_reserved : (level word : ℕ) → 3 < level → meaning level word ≡ entry.Reserved → IsLowestReservedBit level word 7
high_reserved level word high is =
    let leaf = no_leaf level word high in
    record {
      is = record { set = set_in_table level word leaf is; reserved = subst (which 7) (sym leaf) refl };
      lowest = λ other at. let seven : other ≡ 7 = subst (which other) leaf at.reserved in omega (arith, seven);
    } where
      which : ℕ → Bool → Type 0
      which bit b = MatchBool b ((13 ≤ bit) × (bit < 3 + 9 * level)) (bit ≡ 7)

pub low_reserved : (level word part : ℕ) → level ≤ 3 → meaning level word ≡ entry.Reserved → part ≡ word % entry_bytes level / 2 ^ 13
    → IsLowestReservedBit level word (13 + trailing_zeros w64 part)
low_reserved zero word part few is same = absurd (none_of_zero word is)
low_reserved (suc zero) word part few is same = absurd (none_of_one word is)
low_reserved (suc (suc zero)) word part few is same =
    let leaf = leaf_of_two word is in
    from_lowest 2 word (13 + trailing_zeros w64 part) leaf.0
    (lowest word 13 21 8 part same refl (omega (arith, leaf.1)) (omega arith) (omega arith) (omega arith) (omega arith))
low_reserved (suc (suc (suc zero))) word part few is same =
    let leaf = leaf_of_three word is in
    from_lowest 3 word (13 + trailing_zeros w64 part) leaf.0
    (lowest word 13 30 17 part same refl (omega (arith, leaf.1)) (omega arith) (omega arith) (omega arith) (omega arith))
low_reserved (suc (suc (suc (suc level)))) word part few is same = absurd (omega arith)
