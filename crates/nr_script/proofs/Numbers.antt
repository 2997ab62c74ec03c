-- The decimal text of a number below 64: one digit, or two of which the first is not 0.
use Rattle.std.proofs.Common.{◌≡◌, ℕ, ◌+◌, ◌/◌, ◌%◌, ◌<◌, ◌≤◌, ◌⊎◌, ◌==◌, ◌++◌, false, List, [], ◌∷◌, length, decimal, refl, sym, ap, subst, ◌∙◌, arith, inl}
use Rattle.std.proofs.Common.{inr}
use Rattle.std.proofs.lemmas.Bool.{cases_lt}
use Rattle.std.proofs.lemmas.Bool.Decides.{nat_tests}
use Rattle.std.proofs.lemmas.Fmt.{decimal_digit, decimal_step}
use Rattle.vs_text.proofs.Cuts.{HasNoSpace}

decimal_of_two : (n : ℕ) → 10 ≤ n → n < 64 → decimal n ≡ (48 + n / 10) ∷ (48 + n % 10) ∷ []
decimal_of_two n low high =
    decimal_step n low (omega arith) ∙ ap (λ (tens : List ℕ). tens ++ (48 + n % 10) ∷ []) (decimal_digit (n / 10) (omega arith))

-- the digits of a number below 64
abbrev pub AreDigits : ℕ → List ℕ → Type 0
AreDigits n word = ((n < 10) × (word ≡ (48 + n) ∷ [])) ⊎ ((10 ≤ n) × (word ≡ (48 + n / 10) ∷ (48 + n % 10) ∷ []))

pub digits_of_number : (n : ℕ) (word : List ℕ) → n < 64 → word ≡ decimal n → AreDigits n word
digits_of_number n word small same = elim (cases_lt n 10) [
  | inl low ↦ inl (low, same ∙ decimal_digit n low)
  | inr high ↦ inr (high, same ∙ decimal_of_two n high small)
]

pub number_of_digits : (n : ℕ) (word : List ℕ) → n < 64 → AreDigits n word → word ≡ decimal n
number_of_digits n word small (inl one) = one.1 ∙ sym (decimal_digit n one.0)
number_of_digits n word small (inr two) = two.1 ∙ sym (decimal_of_two n two.0 small)

-- a word that is a number has one digit or two
pub length_of_number : (n : ℕ) (word : List ℕ) → AreDigits n word → (0 < length word) × (length word < 3)
length_of_number n word (inl one) = (omega (arith, ap length one.1), omega (arith, ap length one.1))
length_of_number n word (inr two) = (omega (arith, ap length two.1), omega (arith, ap length two.1))

pub one_digit : (n digit : ℕ) → n < 64 → digit ∷ [] ≡ decimal n → (n < 10) × (digit ≡ 48 + n)
one_digit n digit small same = elim (digits_of_number n (digit ∷ []) small same) [
  | inl one ↦ (one.0, cc (one.1))
  | inr two ↦ absurd (omega (arith, ap length two.1))
]

pub two_digits : (n tens digit : ℕ) → n < 64 → tens ∷ digit ∷ [] ≡ decimal n → (10 ≤ n) × (tens ≡ 48 + n / 10) × (digit ≡ 48 + n % 10)
two_digits n tens digit small same = elim (digits_of_number n (tens ∷ digit ∷ []) small same) [
  | inl one ↦ absurd (omega (arith, ap length one.1))
  | inr two ↦ (two.0, cc (two.1), cc (two.1))
]

-- no digit is a space
digit_alone : (digit : ℕ) → digit < 10 → (48 + digit == 32) ≡ false
digit_alone digit small = grind (arith, nat_tests)

pub number_alone : (n : ℕ) → n < 64 → HasNoSpace (decimal n)
number_alone n small = elim (digits_of_number n (decimal n) small refl) [
  | inl one ↦ subst HasNoSpace (sym one.1) (digit_alone n one.0, tt)
  | inr two ↦ subst HasNoSpace (sym two.1) (digit_alone (n / 10) (omega arith), (digit_alone (n % 10) (omega arith), tt))
]
