use Rattle.std.proofs.Common.{◌≡◌, ◌<◌, get_or, sym, ap, ◌∙◌, arith}
use Rattle.std.specs.Char.{digit_value}
use Rattle.std.specs.Str.Parse.{AllDigits}
use Rattle.std.proofs.lemmas.Int.Digits.{digits_more, digits_value_more}
use Rattle.vs_text.proofs.Hexadecimals.{below_last, digit_among}
use Rattle.vs_text.proofs.address.parse_hexadecimal.Goals as goal

pub returns-in_err-value : goal.returns-in_err-value
returns-in_err-value c =
    let digits = c.args.digits.now in
    let among : AllDigits 16 digits → digit_value (get_or digits c.loop-digit.digit-index 0) < 16 =
    λ all. digit_among 16 digits c.loop-digit.digit-index c.loop-digit-test.true all in
    rw c.from_residual.ensures (λ number spelled. c.in_err-value.ensures.value (rw c.from.ensures (among spelled.0)))

pub overflow_mul-number : goal.overflow_mul-number
overflow_mul-number c =
    let below = below_last c.args.digits.now c.loop-digit.digit-index c.requires c.loop-digit-test.true c.loop-digit.invariant.0 in
    omega (arith, c.loop-digit.invariant.1)

pub overflow_add-number : goal.overflow_add-number
overflow_add-number c =
    let below = below_last c.args.digits.now c.loop-digit.digit-index c.requires c.loop-digit-test.true c.loop-digit.invariant.0 in
    let small : c.in_ok-value.value < 16 = omega (arith, c.in_ok-value.ensures.value.0, c.in_ok-value.ensures.value.1) in
    omega (arith, c.loop-digit.invariant.1, c.from-in-loop-digit.ensures)

pub loop-digit-preserved : goal.loop-digit-preserved
loop-digit-preserved c =
    let digits = c.args.digits.now in
    let i = c.loop-digit.digit-index in
    let within = c.loop-digit-test.true in
    let is_digit : digit_value (get_or digits i 0) < 16 = rw (sym c.from.ensures) c.in_ok-value.ensures.value.0 in
    let value : c.from-in-loop-digit.result ≡ digit_value (get_or digits i 0) = c.from-in-loop-digit.ensures ∙ c.in_ok-value.ensures.value.1
    ∙ ap digit_value c.from.ensures in (
      digits_more 16 digits i within c.loop-digit.invariant.0 is_digit,
      omega (arith, digits_value_more 16 digits i within, c.loop-digit.invariant.1, value),
    )
