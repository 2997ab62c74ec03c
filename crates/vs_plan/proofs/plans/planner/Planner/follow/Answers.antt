use Rattle.std.proofs.Common.{◌≡◌, Some, None, refl, sym, ap, ◌∙◌, arith}
use Rattle.std.specs.Prelude.{slice_index}
use Rattle.vs_types.specs.Depth.{index_at}
use Rattle.vs_types.specs.declared.entries.entry.Meaning.{Meaning}
use Rattle.vs_types.specs.declared.entries.entry.Meaning.TheVariants as entry
use Rattle.vs_space.specs.Path.{table_in}
use Rattle.vs_plan.specs.declared.plans.plan.Step.TheVariants as steps
use Rattle.vs_walk.proofs.Walks.{few_levels}
use Rattle.vs_plan.specs.declared.plans.planner.Planner.{Planner}
use Rattle.vs_plan.proofs.Descending.{shown_on, ends_at, goes_beyond}
use Rattle.vs_plan.proofs.Parts.{beyond_right, planned_next}
use Rattle.vs_plan.proofs.plans.planner.Planner.follow.Goals as goal

pub returns-clause-next : goal.returns-clause-next
returns-clause-next g c = λ memory descended there.
    let few = few_levels c.args.self.now.target.depth in
    let at = c.index_at-index.ensures.is ∙ ap (index_at c.args.self.now.level) c.address.ensures in
    shown_on (c.requires.read ∙ ap (slice_index (g.W.FrameWords.words c.args.words.now)) (sym at)) descended.met descended.way there at
    c.stop_at-self.ensures.at_most c.stop_at-self.ensures.alone (omega (arith, few, c.requires.awaits.few)) (omega (arith, few, c.requires.awaits.few))
    c.requires.awaits.some c.in-Some.ensures.1 c.intersection-self.ensures c.requires.phase

pub returns-then-next-frames_end-clause-next : goal.returns-then-next-frames_end-clause-next
returns-then-next-frames_end-clause-next g c = λ memory descended there.
    let few = few_levels c.args.self.now.target.depth in
    let at = c.index_at-index.ensures.is ∙ ap (index_at c.args.self.now.level) c.address.ensures in
    planned_next c.args.self.now c.refuse.new.self c.refuse.result (ap (λ (q : Planner). q.target) c.refuse.ensures.same)
    (ap (λ (q : Planner). q.request) c.refuse.ensures.same) c.refuse.ensures.planned
    (λ plan none space premise. beyond_right premise plan none
    (goes_beyond (c.requires.read ∙ ap (slice_index (g.W.FrameWords.words c.args.words.now)) (sym at)) descended.met descended.way there at
    c.stop_at-self.ensures.at_most c.stop_at-self.ensures.alone (omega (arith, few, c.requires.awaits.few)) (omega (arith, few, c.requires.awaits.few))
    c.requires.awaits.some c.in-Some.ensures.1 (omega (arith, c.frames_end.ensures.is, c.if-next-frames_end.true))))

pub returns-in_default-clause-next : goal.returns-in_default-clause-next
returns-in_default-clause-next g c = λ memory descended there.
    let few = few_levels c.args.self.now.target.depth in
    let at = c.index_at-index.ensures.is ∙ ap (index_at c.args.self.now.level) c.address.ensures in
    c.end.ensures.next memory
    (ends_at (c.requires.read ∙ ap (slice_index (g.W.FrameWords.words c.args.words.now)) (sym at)) descended.met descended.way there at
    c.stop_at-self.ensures.at_most c.stop_at-self.ensures.alone (omega (arith, few, c.requires.awaits.few)) (omega (arith, few, c.requires.awaits.few))
    c.in_default.ensures)
    (there ∙ ap Some (sym c.stop_at-self.ensures.same))

pub returns-clause-leads : goal.returns-clause-leads
returns-clause-leads g c = λ next own low link within.
    let same : entry.Table c.in-Some.next c.in-Some.own ≡ entry.Table next own = sym c.in-Some.ensures.1 ∙ link in
    let number : c.in-Some.next ≡ next = cc in
    (ap steps.See number, refl, c.requires.phase)

pub returns-then-next-frames_end-clause-leads : goal.returns-then-next-frames_end-clause-leads
returns-then-next-frames_end-clause-leads g c = λ next own low link within.
    let same : entry.Table c.in-Some.next c.in-Some.own ≡ entry.Table next own = sym c.in-Some.ensures.1 ∙ link in
    let number : c.in-Some.next ≡ next = cc in
    absurd (omega (arith, number, within, c.frames_end.ensures.is, c.if-next-frames_end.true))

pub returns-in_default-clause-leads : goal.returns-in_default-clause-leads
returns-in_default-clause-leads g c = λ next own low link within.
    let some : Some next ≡ None = sym (ap (λ (e : Meaning). table_in (Some e)) link) ∙ c.in_default.ensures low in
    cc
