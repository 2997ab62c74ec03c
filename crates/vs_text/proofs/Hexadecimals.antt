-- Hexadecimal digits, read from the first on.
use Rattle.std.proofs.Common.{ℕ, ◌^◌, ◌<◌, ◌≤◌, List, [], ◌∷◌, zero, suc, length, take, get_or, arith}
use Rattle.std.specs.Char.{digit_value}
use Rattle.std.specs.Str.Parse.{AllDigits, digits_value}
use Rattle.std.proofs.lemmas.Int.Digits.{digits_value-lt}
use Rattle.std.proofs.lemmas.List.{length-take-le}
use Rattle.std.proofs.Math.Nat.{pow-le-pow_right}

-- each digit of a numeral is one
pub digit_among : (radix : ℕ) (digits : List ℕ) (i : ℕ) → i < length digits → AllDigits radix digits → digit_value (get_or digits i 0) < radix
digit_among radix [] i within all = absurd (omega arith)
digit_among radix (c ∷ cs) zero within all = all.0
digit_among radix (c ∷ cs) (suc i) within all = digit_among radix cs i (omega arith) all.1

-- before the sixteenth digit there is room for one more
pub below_last : (digits : List ℕ) (i : ℕ) → length digits ≤ 16 → i < length digits → AllDigits 16 (take i digits) → digits_value 16 (take i digits) < 2 ^ 60
below_last digits i few within all =
    let below = digits_value-lt 16 (take i digits) all in
    let most = pow-le-pow_right {n = 16} (omega arith) {i = length (take i digits)} {j = 15} (omega (arith, length-take-le i digits (omega arith))) in
    omega arith
