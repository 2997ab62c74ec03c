use Rattle.std.proofs.Common.{◌≡◌, ℕ, ◌-◌, ◌==◌, true, false, length, drop, ap, sym, ◌∙◌, subst, arith}
use Rattle.std.proofs.lemmas.List.{length-drop, nil_from_length, take_all}
use Rattle.nr_explain.specs.inside.Steps.{StepsTo}
use Rattle.nr_explain.proofs.Feeding.{at_end, at_first, at_more, at_next, at_wrong}
use Rattle.std.proofs.lemmas.Bool.{eqb-true}
use Rattle.nr_explain.proofs.chain.reader.ChainReader.feed.Goals as goal

pub segments-init : goal.segments-init
segments-init c = λ came seen. at_first came c.args.self c.args.piece.now seen

pub segments-preserved : goal.segments-preserved
segments-preserved c = λ came seen.
    let here = c.segments.invariant came seen in
    let step = subst (StepsTo here.last c.segments.reader c.segments.rest.now) c.in-Right.is (c.in_ok-next.ensures.steps here.last here.seen) in
    let rest = drop c.in-Right.count c.segments.rest.now in
    let left = take_all (length c.segments.rest.now - c.in-Right.count) rest (omega (arith, length-drop c.in-Right.count c.segments.rest.now)) in
    at_next came c.args.self c.segments.reader c.in-Right.next c.args.piece.now c.segments.rest.now _ c.in-Right.count here step left

pub returns-in-More : goal.returns-in-More
returns-in-More c = λ came seen.
    let here = c.segments.invariant came seen in
    let step = subst (StepsTo here.last c.segments.reader c.segments.rest.now) c.in-More.is (c.in_ok-next.ensures.steps here.last here.seen) in
    at_more came c.args.self c.segments.reader c.in-More.next c.args.piece.now c.segments.rest.now here step

pub returns-in-Wrong : goal.returns-in-Wrong
returns-in-Wrong c = λ came seen.
    let here = c.segments.invariant came seen in
    let step = subst (StepsTo here.last c.segments.reader c.segments.rest.now) c.in-Wrong.is (c.in_ok-next.ensures.steps here.last here.seen) in
    λ rest. at_wrong came c.args.self c.segments.reader c.args.piece.now c.segments.rest.now rest c.in-Wrong.found here
    (step (λ none. absurd (
    let at_zero : length c.segments.rest.now ≡ 0 = ap length none in
    let empty : c.is_empty.result ≡ true = c.is_empty.ensures ∙ ap (λ (n : ℕ). n == 0) at_zero in
    let some : c.is_empty.result ≡ false = c.segments-test.true in cc)) rest)

pub returns : goal.returns
returns c = λ came seen.
    let none = nil_from_length c.segments.rest.now (eqb-true (length c.segments.rest.now) 0 (sym c.is_empty.ensures ∙ c.segments-test.false)) in
    at_end came c.args.self c.segments.reader c.args.piece.now c.segments.rest.now (c.segments.invariant came seen) none
