use Rattle.std.proofs.Common.{All, sym, subst}
use Rattle.std.proofs.lemmas.List.{take_all}
use Rattle.std.proofs.lemmas.List.Elements.{All-more}
use Rattle.nr_serve.specs.SegmentRun.{IsAnswer}
use Rattle.nr_serve.proofs.endings.segment_ending.are_answered.Goals as goal

pub loop-item-preserved : goal.loop-item-preserved
loop-item-preserved c =
    All-more IsAnswer c.args.items.now c.loop-item.item-index _ c.loop-item-test.true c.loop-item.invariant
    (subst IsAnswer (sym c.in-Answer.is) tt)

pub returns-clause-yes : goal.returns-clause-yes
returns-clause-yes c holds = subst (All IsAnswer) (take_all c.loop-item.item-index c.args.items.now c.loop-item-test.false) c.loop-item.invariant

pub returns-in-Stopped-clause-no : goal.returns-in-Stopped-clause-no
returns-in-Stopped-clause-no c all =
    absurd (subst IsAnswer c.in-Stopped.is (all c.loop-item.item-index _ c.loop-item-test.true))
