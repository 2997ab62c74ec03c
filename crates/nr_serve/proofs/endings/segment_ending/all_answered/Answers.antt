use Rattle.std.proofs.Common.{All, refl, sym, subst}
use Rattle.std.proofs.lemmas.List.{take_all}
use Rattle.std.proofs.lemmas.List.Elements.{All-more}
use Rattle.nr_serve.specs.SegmentRun.{IsAnswer}
use Rattle.nr_serve.proofs.endings.segment_ending.all_answered.Goals as goal

pub loop-items-preserved : goal.loop-items-preserved
loop-items-preserved c =
    All-more (λ items. All IsAnswer items.items) c.args.answers.now c.loop-items.items-index c.items-item.result c.loop-items-test.true
    c.loop-items.invariant
    (subst (λ items. All IsAnswer items.items) c.items-item.is (subst (All IsAnswer) c.deref.ensures.value (c.if-not-are_answered.ensures.yes refl)))

pub returns-clause-yes : goal.returns-clause-yes
returns-clause-yes c holds =
    subst (All (λ items. All IsAnswer items.items)) (take_all c.loop-items.items-index c.args.answers.now c.loop-items-test.false) c.loop-items.invariant

pub returns-then-not-are_answered-clause-no : goal.returns-then-not-are_answered-clause-no
returns-then-not-are_answered-clause-no c all =
    c.if-not-are_answered.ensures.no (subst (All IsAnswer) (sym c.deref.ensures.value)
    (subst (λ items. All IsAnswer items.items) (sym c.items-item.is) (all c.loop-items.items-index c.items-item.result c.loop-items-test.true)))
