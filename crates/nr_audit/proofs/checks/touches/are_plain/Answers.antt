use Rattle.std.proofs.Common.{◌≡◌, ℕ, List, length, ap, below_more, arith}
use Rattle.nr_audit.specs.inside.Begun.{IsPlacePlain}
use Rattle.nr_audit.proofs.checks.touches.are_plain.Goals as goal

pub loop-place-preserved : goal.loop-place-preserved
loop-place-preserved c =
    below_more (IsPlacePlain c.args.segment.now) c.loop-place.place c.loop-place.invariant (c.is_plain_at.ensures c.if-not-is_plain_at.false)

pub returns-clause-plain : goal.returns-clause-plain
returns-clause-plain c = λ said place less.
    let same = ap (λ (xs : List ℕ). length xs) c.log-place-end.ensures.reads in
    let end : c.loop-place.place ≡ length c.args.segment.now.log = omega arith in
    c.loop-place.invariant place (omega (arith, end, less))
