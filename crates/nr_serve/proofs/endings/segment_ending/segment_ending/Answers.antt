use Rattle.std.proofs.Common.{All, sym, subst, ◌∙◌}
use Rattle.std.proofs.lemmas.Bool.{false≢true}
use Rattle.nr_serve.specs.SegmentRun.{IsAnswer}
use Rattle.nr_serve.proofs.endings.segment_ending.segment_ending.Goals as goal

pub going_on-requires-clause-answered : goal.going_on-requires-clause-answered
going_on-requires-clause-answered g c =
    subst (All (λ items. All IsAnswer items.items)) c.deref.ensures.value (c.all_answered.ensures.yes c.if-all_answered.true)

pub last-requires-clause-stopped : goal.last-requires-clause-stopped
last-requires-clause-stopped g c all =
    false≢true (sym c.if-all_answered.false
    ∙ c.all_answered.ensures.no (subst (All (λ items. All IsAnswer items.items)) (sym c.deref.ensures.value) all))
