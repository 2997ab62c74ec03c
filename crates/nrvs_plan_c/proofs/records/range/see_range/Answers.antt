use Rattle.std.proofs.Common.{ℕ, List, refl, ap, subst, ◌∙◌}
use Rattle.std.specs.Prelude.{slice_index}
use Rattle.nrvs_plan_c.specs.declared.records.kept.Plan.{Plan}
use Rattle.nrvs_plan_c.specs.Kept.{phase_in}
use Rattle.nrvs_plan_c.specs.Range.{range_in, TakesPageOf}
use Rattle.nrvs_plan_c.specs.inside.Stepped.{FollowsLinkOf}
use Rattle.nrvs_plan_c.proofs.RangesTaken.{none_below, taken_below, taken_down}
use Rattle.nrvs_plan_c.proofs.records.range.see_range.Goals as goal

pub returns-then-run-ne-DESCENT-clause-taken : goal.returns-then-run-ne-DESCENT-clause-taken
returns-then-run-ne-DESCENT-clause-taken g c =
    taken_below c.args.run.now (g.W.FrameWords.words c.args.words.now) _ c.search.result c.requires.sound.phase c.requires.waits c.if-run-ne-DESCENT.true

pub returns-then-go_down-clause-taken : goal.returns-then-go_down-clause-taken
returns-then-go_down-clause-taken g c =
    taken_down c.args.run.now (g.W.FrameWords.words c.args.words.now) _ c.read-word.result _ _ c.requires.sound
    (c.read-word.ensures.is ∙ ap (slice_index (g.W.FrameWords.words c.args.words.now)) c.index_at.ensures.is)
    (c.go_down.ensures.link c.if-go_down.true) (c.go_down.ensures.below c.if-go_down.true)

pub returns-clause-taken : goal.returns-clause-taken
returns-clause-taken g c =
    subst (λ (p : Plan). TakesPageOf (range_in (record c.args.run.now { plan = p })) (g.W.FrameWords.words c.args.words.now) c.follow_by.new.run
    c.follow_by.result) (c.go_down.ensures.stays c.if-go_down.false)
    (subst (λ (ws : List ℕ). TakesPageOf (range_in (record c.args.run.now { plan = c.go_down.new.plan })) ws c.follow_by.new.run c.follow_by.result)
    c.read-word.ensures.same c.follow_by.ensures.taken)

pub returns-then-run-ne-DESCENT-clause-leads : goal.returns-then-run-ne-DESCENT-clause-leads
returns-then-run-ne-DESCENT-clause-leads g c = λ next own phase low link within.
    absurd (none_below c.args.run.now c.requires.sound.phase c.requires.waits c.if-run-ne-DESCENT.true phase)

pub returns-then-go_down-clause-leads : goal.returns-then-go_down-clause-leads
returns-then-go_down-clause-leads g c = λ next own phase low link within.
    (refl, c.go_down.ensures.down c.if-go_down.true, ap phase_in c.go_down.ensures.phase ∙ phase, refl)

pub returns-clause-leads : goal.returns-clause-leads
returns-clause-leads g c =
    subst (λ (p : Plan). FollowsLinkOf (record c.args.run.now { plan = p }) (g.W.FrameWords.words c.args.words.now) c.follow_by.new.run
    c.follow_by.result) (c.go_down.ensures.stays c.if-go_down.false)
    (subst (λ (ws : List ℕ). FollowsLinkOf (record c.args.run.now { plan = c.go_down.new.plan }) ws c.follow_by.new.run c.follow_by.result)
    c.read-word.ensures.same c.follow_by.ensures.leads)
