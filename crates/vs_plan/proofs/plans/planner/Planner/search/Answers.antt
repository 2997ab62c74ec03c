use Rattle.std.proofs.Common.{◌≡◌, ⊎_elim, sym, ap, ◌∙◌, arith}
use Rattle.std.specs.Prelude.{slice_index}
use Rattle.vs_types.specs.Entry.{meaning}
use Rattle.vs_types.specs.declared.entries.entry.Meaning.TheVariants as entry
use Rattle.vs_plan.specs.declared.plans.planner.Planner.{Planner}
use Rattle.vs_plan.proofs.Parts.{planned_next}
use Rattle.vs_plan.proofs.Searching.{shown_on, next_exact, leaf_right, empty_right, search_beyond, search_reserved, search_present}
use Rattle.vs_plan.proofs.plans.planner.Planner.search.Goals as goal

pub returns-in_default-clause-next : goal.returns-in_default-clause-next
returns-in_default-clause-next g c = λ memory searched there.
    let p = c.args.self.now in
    planned_next p c.refuse.new.self c.refuse.result (ap (λ (q : Planner). q.target) c.refuse.ensures.same)
    (ap (λ (q : Planner). q.request) c.refuse.ensures.same) c.refuse.ensures.planned
    (λ plan none space premise. empty_right c.requires.awaits.request c.requires.awaits.some searched there c.in_default.ensures.none plan none space premise)

pub returns-then-next-frames_end-clause-next : goal.returns-then-next-frames_end-clause-next
returns-then-next-frames_end-clause-next g c = λ memory searched there.
    let p = c.args.self.now in
    let first = c.in-Some.ensures.first.0 in
    let says : meaning p.level (slice_index (g.W.FrameWords.words c.args.words.now) c.in-Some.index) ≡ entry.Table c.in-Table.next c.in-Table.field-1 =
    ap (meaning p.level) (sym c.in-Some.ensures.first.1 ∙ sym c.new.ensures) ∙ sym c.read.ensures ∙ c.in-Table.is in
    let refused = c.refuse-then-next-frames_end in
    planned_next p refused.new.self refused.result (ap (λ (q : Planner). q.target) refused.ensures.same)
    (ap (λ (q : Planner). q.request) refused.ensures.same) refused.ensures.planned
    (λ plan none space premise. search_beyond c.requires.awaits.request c.requires.awaits.some searched there first
    (next_exact c.requires.awaits.request c.requires.awaits.some searched there c.in-Some.index c.entry_offset.result c.entry_offset.ensures
    first.within) premise plan says
    (omega (arith, c.frames_end.ensures.is, c.if-next-frames_end.true)) none)

pub returns-else-next-frames_end-clause-next : goal.returns-else-next-frames_end-clause-next
returns-else-next-frames_end-clause-next g c = λ memory searched there.
    let p = c.args.self.now in
    let first = c.in-Some.ensures.first.0 in
    let says : meaning p.level (slice_index (g.W.FrameWords.words c.args.words.now) c.in-Some.index) ≡ entry.Table c.in-Table.next c.in-Table.field-1 =
    ap (meaning p.level) (sym c.in-Some.ensures.first.1 ∙ sym c.new.ensures) ∙ sym c.read.ensures ∙ c.in-Table.is in
    shown_on c.requires.awaits.request c.requires.awaits.some searched there first
    (next_exact c.requires.awaits.request c.requires.awaits.some searched there c.in-Some.index c.entry_offset.result c.entry_offset.ensures
    first.within) says c.requires.phase

pub returns-in-Leaf-clause-next : goal.returns-in-Leaf-clause-next
returns-in-Leaf-clause-next g c = λ memory searched there.
    let p = c.args.self.now in
    let first = c.in-Some.ensures.first.0 in
    let says : meaning p.level (slice_index (g.W.FrameWords.words c.args.words.now) c.in-Some.index) ≡ entry.Leaf c.in-Leaf.field-0 c.in-Leaf.field-1 =
    ap (meaning p.level) (sym c.in-Some.ensures.first.1 ∙ sym c.new.ensures) ∙ sym c.read.ensures ∙ c.in-Leaf.is in
    let refused = c.refuse-in-Leaf in
    planned_next p refused.new.self refused.result (ap (λ (q : Planner). q.target) refused.ensures.same)
    (ap (λ (q : Planner). q.request) refused.ensures.same) refused.ensures.planned
    (λ plan none space premise. leaf_right c.requires.awaits.request c.requires.awaits.some searched there first
    (next_exact c.requires.awaits.request c.requires.awaits.some searched there c.in-Some.index c.entry_offset.result c.entry_offset.ensures
    first.within) premise plan says none)

pub returns-in-Absent-clause-next : goal.returns-in-Absent-clause-next
returns-in-Absent-clause-next g c = λ memory searched there.
    let p = c.args.self.now in
    let first = c.in-Some.ensures.first.0 in
    let reads : meaning p.level (slice_index (g.W.FrameWords.words c.args.words.now) c.in-Some.index) ≡ c.read.result =
    ap (meaning p.level) (sym c.in-Some.ensures.first.1 ∙ sym c.new.ensures) ∙ sym c.read.ensures in
    let refused = c.refuse-in-Absent in
    planned_next p refused.new.self refused.result (ap (λ (q : Planner). q.target) refused.ensures.same)
    (ap (λ (q : Planner). q.request) refused.ensures.same) refused.ensures.planned
    (λ plan none space premise. ⊎_elim
    (λ absent. absurd (search_present c.requires.awaits.request c.requires.awaits.some searched there first
    (next_exact c.requires.awaits.request c.requires.awaits.some searched there c.in-Some.index c.entry_offset.result c.entry_offset.ensures
    first.within) (reads ∙ absent)))
    (λ reserved. search_reserved c.requires.awaits.request c.requires.awaits.some searched there first
    (next_exact c.requires.awaits.request c.requires.awaits.some searched there c.in-Some.index c.entry_offset.result c.entry_offset.ensures
    first.within) premise plan (reads ∙ reserved))
    c.in-Absent.is)
