use Rattle.std.proofs.Common.{◌≡◌, ◌+◌, ◌-◌, ◌++◌, length, drop, ap, ◌∙◌, arith, length-drop}
use Rattle.std.proofs.lemmas.List.{take_all}
use Rattle.nr_explain.specs.declared.ends.TheConstants.{TAIL_BYTES}
use Rattle.nr_explain.proofs.TwoEnds.{cut_two}
use Rattle.nr_explain.proofs.ends.keep_tail.Goals as goal

pub returns : goal.returns
returns c =
    let tail = c.args.tail.now.items in
    let piece = c.args.piece.now in
    let from = c.saturating_sub-from.result in
    let over = c.saturating_sub-over.result in
    let all = length tail + length piece - TAIL_BYTES in
    let last = take_all (length piece - from) (drop from piece) (omega (arith, length-drop from piece)) in
    let long = length-drop from piece in
    let some : from ≡ length piece - TAIL_BYTES = omega (arith, c.saturating_sub-from.ensures) in
    let many : over ≡ length tail + (length piece - from) - TAIL_BYTES =
    omega (arith, c.saturating_sub-over.ensures, c.len.ensures, c.args.tail.now.ok.0, ap length last, long) in
    c.in_ok-extend_from_slice.ensures.items ∙ (λ i. c.cut_front.ensures i ++ last i)
    ∙ cut_two tail piece all over from (omega (arith, some, many)) (λ h. omega (arith, some, h)) (λ h. omega (arith, some, many, h))
