use Rattle.std.proofs.Common.{◌≡◌, ℕ, List, length, ap, below_more, arith}
use Rattle.nr_audit.specs.inside.Begun.{IsPlaceAnswered}
use Rattle.nr_audit.proofs.checks.touches.are_answered.Goals as goal

pub loop-place-preserved : goal.loop-place-preserved
loop-place-preserved c =
    below_more (IsPlaceAnswered c.args.segment.now) c.loop-place.place c.loop-place.invariant (c.is_answered_at.ensures c.if-not-is_answered_at.false)

pub returns : goal.returns
returns c = λ said place less.
    let same = ap (λ (xs : List ℕ). length xs) c.log-place-end.ensures.reads in
    let end : c.loop-place.place ≡ length c.args.segment.now.log = omega arith in
    c.loop-place.invariant place (omega (arith, end, less))
