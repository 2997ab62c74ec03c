use Rattle.std.proofs.Common.{◌≡◌, ◌+◌, ◌-◌, ◌<◌, ℕ, [], ◌∷◌, arith, inl, ap}
use Rattle.nr_script.proofs.Numbers.{number_of_digits, one_digit}
use Rattle.nr_script.proofs.number.parse_digit.Goals as goal

pub returns-then-is_ascii_digit : goal.returns-then-is_ascii_digit
returns-then-is_ascii_digit c =
    let digit = c.args.digit in
    let range = c.if-is_ascii_digit.ensures.cases in
    let low : digit - 48 < 10 = omega arith in
    let same : digit ≡ 48 + (digit - 48) = omega arith in
    (omega arith, number_of_digits (digit - 48) (digit ∷ []) (omega arith) (inl (low, ap (λ (d : ℕ). d ∷ []) same)))

pub returns-else-is_ascii_digit : goal.returns-else-is_ascii_digit
returns-else-is_ascii_digit c = λ n h.
    let read = one_digit n c.args.digit h.0 h.1 in
    let range = c.if-is_ascii_digit.ensures.cases in
    grind arith
