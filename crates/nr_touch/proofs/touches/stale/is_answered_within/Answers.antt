use Rattle.std.proofs.Common.{inl, inr, arith}
use Rattle.std.proofs.lemmas.Bool.Decides.{not_from_Decides}
use Rattle.nr_touch.proofs.Tests.{no, yes}
use Rattle.nr_touch.proofs.Walked.{answered_before, answered_later, says_at, says_upto, up_to_last}
use Rattle.nr_touch.proofs.touches.stale.is_answered_within.Goals as goal

pub returns-then-answers : goal.returns-then-answers
returns-then-answers c = λ b order within.
    let at = says_at b c.args.touch.now c.args.first c.next-next.result c.answers.result
    c.next-next.ensures.next (λ now seen. c.answers.ensures now (c.look_until.ensures now seen)) (omega (arith, order, within)) in
    yes (c.args.first, omega arith, order, at.0 c.if-answers.true)

pub returns-then-not-lies_before : goal.returns-then-not-lies_before
returns-then-not-lies_before c = λ b order within. no (λ (n, low, high, answered).
    not_from_Decides _ (says_upto b c.args.touch.now c.args.first c.next-next.result c.answers.result c.next-next.ensures.next
    (λ now seen. c.answers.ensures now (c.look_until.ensures now seen)) n low (omega (arith, high, within))
    (up_to_last c.next-next.result n c.args.last (not_from_Decides _ c.lies_before.ensures c.if-not-lies_before.true) high)) c.if-answers.false answered)

pub returns-then-answers-2 : goal.returns-then-answers-2
returns-then-answers-2 c = λ b order within.
    let at = says_at b c.args.touch.now c.args.last c.next-later.result c.answers-2.result
    c.next-later.ensures.next (λ now seen. c.answers-2.ensures now (c.look_until-2.ensures now seen)) within in
    yes (c.args.last, order, omega arith, at.0 c.if-answers-2.true)

pub returns : goal.returns
returns c = λ b order within.
    let touch = c.args.touch.now in
    let at_last = says_at b touch c.args.last c.next-later.result c.answers-2.result c.next-later.ensures.next
    (λ now seen. c.answers-2.ensures now (c.look_until-2.ensures now seen)) within in (
      λ t. answered_before b touch c.args.first c.args.last (c.is_answered_between.ensures.0 t),
      λ (n, low, high, answered). elim (answered_later b touch n c.args.last high within answered) [
        | inl at ↦ absurd (not_from_Decides _ at_last c.if-answers-2.false at)
        | inr (change, has, covered, from, before, told) ↦
            c.is_answered_between.ensures.1 (change, has, covered, omega (arith, low, from), before, told)
      ],
    )
