-- Words in which the accessed flag and the dirty flag change: they say the same, stay as written, and are 0 where they were.
use Rattle.std.proofs.Common.{◌≡◌, ◌≢◌, ℕ, zero, suc, ◌+◌, ◌*◌, ◌/◌, ◌%◌, ◌^◌, ◌<◌, ◌≤◌, List, [], ◌∷◌, length, replicate, ⊎_elim, refl, sym, ap, subst}
use Rattle.std.proofs.Common.{◌∙◌, arith}
use lib.Pow.{shr-shr}
use Rattle.std.specs.Prelude.{◌==◌, slice_index}
use Rattle.std.specs.Int.{bit_at}
use Rattle.std.specs.List.{AllZip}
use Rattle.std.proofs.lemmas.Bool.{cases_eq, cases_lt}
use Rattle.std.proofs.lemmas.List.{get_or_past}
use Rattle.std.proofs.lemmas.List.Elements.{length_all_zip, AllZip-get_or}
use Rattle.std.proofs.lemmas.Nat.Bits.{same_from_bits}
use Rattle.vs_types.specs.Depth.{entry_bytes}
use Rattle.vs_types.specs.Entry.{meaning, is_leaf, has_reserved, rights_of, size_at, table_word, leaf_word}
use Rattle.vs_types.specs.declared.entries.entry.Meaning.{Meaning}
use Rattle.vs_types.specs.declared.entries.entry.Meaning.TheVariants as entry
use Rattle.vs_space.specs.Flags.{IsSameButFlags}
use Rattle.vs_types.specs.Bits.{IsWritten, flags_in, word_for}
use Rattle.vs_space.specs.Counted.{one_for, nonzero_count}
use Rattle.vs_space.proofs.Counts.{one_for_some}
use Rattle.vs_space.proofs.Written.{written_for}
use Rattle.vs_types.proofs.Placed.{bit_0, means_with, rights_same, said, IsAsPlaced}

-- ---- the bits below the two flags, and those above

low_bits : (a b : ℕ) → bit_at a 0 ≡ bit_at b 0 → bit_at a 1 ≡ bit_at b 1 → bit_at a 2 ≡ bit_at b 2 → bit_at a 3 ≡ bit_at b 3 → bit_at a 4 ≡ bit_at b 4
    → a % 32 ≡ b % 32
low_bits a b zeroth first second third fourth = omega (arith, zeroth, first, second, third, fourth)

pub bit_above : (n k i : ℕ) → bit_at (n / 2 ^ k) i ≡ bit_at n (k + i)
bit_above n k i = ap (λ x. x % 2) (shr-shr n k i)

record IsAlike (old new : ℕ) : Type 0 where
  low : new % 32 ≡ old % 32
  high : new / 128 ≡ old / 128

alike : {old new : ℕ} → IsSameButFlags old new → IsAlike old new
alike {old} {new} is = record {
  low = low_bits new old (is.bits 0 (λ e. omega arith) (λ e. omega arith)) (is.bits 1 (λ e. omega arith) (λ e. omega arith))
      (is.bits 2 (λ e. omega arith) (λ e. omega arith)) (is.bits 3 (λ e. omega arith) (λ e. omega arith)) (is.bits 4 (λ e. omega arith) (λ e. omega arith));
  high = same_from_bits (new / 2 ^ 7) (old / 2 ^ 7)
      (λ i. bit_above new 7 i ∙ is.bits (7 + i) (λ e. omega arith) (λ e. omega arith) ∙ sym (bit_above old 7 i));
}

-- ---- what they say

module _ {old new : ℕ} (is : IsAlike old new) where
  as_placed : IsAsPlaced old new
  as_placed = record { present = omega (arith, is.low); between = omega (arith, is.high) }

  same_rights : rights_of new ≡ rights_of old
  same_rights = rights_same (bit_at new 1) (bit_at old 1) (bit_at new 2) (bit_at old 2) (bit_at new 63) (bit_at old 63)
      (omega (arith, is.low)) (omega (arith, is.low)) (omega (arith, is.high))

  same_meaning : (level : ℕ) → 1 ≤ level → meaning level new ≡ meaning level old
  same_meaning zero some = absurd (omega (arith, some))
  same_meaning (suc below) some = means_with as_placed below
      ∙ ap (λ rights. said (bit_at old 0 == 1) (has_reserved (suc below) old) (is_leaf (suc below) old) rights
      (old % 2 ^ 52 / entry_bytes (suc below) * entry_bytes (suc below)) (old % 2 ^ 52 / 2 ^ 12)) same_rights

  moved : (word : ℕ) → old ≡ word + flags_in old → new ≡ word + flags_in new
  moved word was = omega (arith, is.low, is.high, was)

-- ---- words that are written

module _ {old new : ℕ} (is : IsSameButFlags old new) where
  stays_zero : old ≡ 0 → new ≡ 0
  stays_zero none = is.absent (ap (λ n. bit_at n 0) none) ∙ none

  pub flagged_meaning : (level : ℕ) → 1 ≤ level → meaning level new ≡ meaning level old
  flagged_meaning = same_meaning (alike is)

  pub flagged_written : (level : ℕ) → 1 ≤ level → IsWritten level old → IsWritten level new
  flagged_written level some written =
      record { is = by (meaning level old) refl ∙ ap (λ e. word_for level e (flags_in new)) (sym (flagged_meaning level some)) } where
        by : (e : Meaning) → meaning level old ≡ e → new ≡ word_for level e (flags_in new)
        by entry.Absent says = stays_zero (written_for written says)
        by entry.Reserved says = stays_zero (written_for written says)
        by (entry.Table number own) says = moved (alike is) (table_word number) (written_for written says)
        by (entry.Leaf phys own) says = moved (alike is) (leaf_word (size_at level) phys own) (written_for written says)

  -- it still fits its 64 bits
  pub flagged_fits : old < 2 ^ 64 → new < 2 ^ 64
  flagged_fits fits = omega (arith, (alike is).high, fits)

  flagged_one : one_for new ≡ one_for old
  flagged_one = ⊎_elim
      (λ (none : bit_at old 0 ≡ 0). ap one_for (is.absent none))
      (λ (some : bit_at old 0 ≢ 0).
      one_for_some new (λ none. some (sym (bit_0 (as_placed (alike is))) ∙ ap (λ n. bit_at n 0) none))
      ∙ sym (one_for_some old (λ none. some (ap (λ n. bit_at n 0) none))))
      (cases_eq (bit_at old 0) 0)

unchanged : (word : ℕ) → IsSameButFlags word word
unchanged word = record { absent = λ none. refl; bits = λ bit apart other. refl }

-- ---- the words of a frame

pub flagged_at : (before after : List ℕ) → AllZip IsSameButFlags before after → (index : ℕ)
    → IsSameButFlags (slice_index before index) (slice_index after index)
flagged_at before after are index = ⊎_elim
    (λ (within : index < length before). AllZip-get_or IsSameButFlags before after index 0 0 are within)
    (λ (past : length before ≤ index).
    let long = length_all_zip IsSameButFlags before after are in
    let first : slice_index before index ≡ 0 = get_or_past before index 0 past in
    let second : slice_index after index ≡ 0 = get_or_past after index 0 (omega (arith, long, past)) in
    subst (λ word. IsSameButFlags word (slice_index after index)) (sym first) (subst (IsSameButFlags 0) (sym second) (unchanged 0)))
    (cases_lt index (length before))

pub flagged_count : (before after : List ℕ) → AllZip IsSameButFlags before after → nonzero_count after ≡ nonzero_count before
flagged_count [] [] are = refl
flagged_count (word ∷ before) (next ∷ after) are =
    let here = flagged_one are.0 in
    let rest = flagged_count before after are.1 in
    let e : one_for next + nonzero_count after ≡ one_for word + nonzero_count before = omega (arith, here, rest) in
    e
flagged_count _ _ are = absurd are

pub flagged_zeros : (n : ℕ) (after : List ℕ) → AllZip IsSameButFlags (replicate n 0) after → after ≡ replicate n 0
flagged_zeros zero [] are = refl
flagged_zeros (suc n) (word ∷ after) are = ap (λ w. w ∷ after) (stays_zero are.0 refl) ∙ ap (λ ws. 0 ∷ ws) (flagged_zeros n after are.1)
flagged_zeros _ _ are = absurd are
