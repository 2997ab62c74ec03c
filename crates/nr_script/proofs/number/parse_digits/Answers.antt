use Rattle.std.proofs.Common.{◌≡◌, ◌+◌, ◌-◌, ◌*◌, ◌/◌, ◌%◌, ◌≤◌, ℕ, List, [], ◌∷◌, arith, inr}
use Rattle.nr_script.proofs.Numbers.{number_of_digits, two_digits}
use Rattle.nr_script.proofs.number.parse_digits.Goals as goal
use Rattle.nr_script.proofs.number.parse_digits.Goals.{then-tens-lt49-via-then-tens-lt49, then-tens-lt49-via-else-tens-lt49+then-tens-gt54}
use Rattle.nr_script.proofs.number.parse_digits.Goals.{then-tens-lt49-via-else-tens-lt49+else-tens-gt54+then-not-is_ascii_digit}

pub returns-then-tens-lt49 : goal.returns-then-tens-lt49
returns-then-tens-lt49 c = λ n h.
    let read = two_digits n c.args.tens c.args.digit h.0 h.1 in
    elim c.then-tens-lt49.branch [
      | then-tens-lt49-via-then-tens-lt49 w ↦ omega arith
      | then-tens-lt49-via-else-tens-lt49+then-tens-gt54 w ↦ omega arith
      | then-tens-lt49-via-else-tens-lt49+else-tens-gt54+then-not-is_ascii_digit w ↦ let range = w.if-not-is_ascii_digit.ensures.cases in grind arith
    ]

pub returns-then-number-lt64 : goal.returns-then-number-lt64
returns-then-number-lt64 c =
    let tens = c.args.tens in
    let digit = c.args.digit in
    let n = (tens - 48) * 10 + (digit - 48) in
    let range = c.if-not-is_ascii_digit.ensures.cases in
    let ten : 10 ≤ n = omega arith in
    let first : tens ≡ 48 + n / 10 = omega arith in
    let last : digit ≡ 48 + n % 10 = omega arith in
    let same : ◌≡◌ {A = List ℕ} (tens ∷ digit ∷ []) ((48 + n / 10) ∷ (48 + n % 10) ∷ []) = cc in
    (c.if-number-lt64.true, number_of_digits n (tens ∷ digit ∷ []) c.if-number-lt64.true (inr (ten, same)))

pub returns-else-number-lt64 : goal.returns-else-number-lt64
returns-else-number-lt64 c = λ n h.
    let read = two_digits n c.args.tens c.args.digit h.0 h.1 in
    omega arith
