use Rattle.std.proofs.Common.{◌≡◌, Some, sym, ap, ◌∙◌, arith}
use Rattle.vs_types.specs.Depth.{index_at}
use Rattle.vs_types.specs.Entry.{meaning}
use Rattle.vs_types.specs.Page.{bytes_of}
use Rattle.vs_types.specs.declared.entries.entry.Meaning.TheVariants as entry
use Rattle.vs_plan.specs.declared.plans.planner.Planner.{Planner}
use Rattle.vs_plan.proofs.Asking.{reserved_right}
use Rattle.vs_plan.proofs.Grown.{overlap_right}
use Rattle.vs_plan.specs.Request.{address_of}
use Rattle.vs_plan.proofs.Parts.{beyond_right, leads_beyond, planned_next}
use Rattle.vs_plan.proofs.Stored.{found_word}
use Rattle.vs_plan.proofs.Searching.{search_begins}
use Rattle.vs_plan.proofs.plans.planner.Planner.end_map.Goals as goal

pub returns-in-Leaf-clause-next : goal.returns-in-Leaf-clause-next
returns-in-Leaf-clause-next c = λ memory ended.
    let p = c.args.self.now in
    let says : meaning p.level c.args.word ≡ entry.Leaf c.in-Leaf.field-0 c.in-Leaf.field-1 =
    ap (meaning p.level) (sym c.new.ensures) ∙ sym c.read.ensures ∙ c.in-Leaf.is in
    planned_next p c.refuse.new.self c.refuse.result (ap (λ (q : Planner). q.target) c.refuse.ensures.same)
    (ap (λ (q : Planner). q.request) c.refuse.ensures.same) c.refuse.ensures.planned
    (λ plan none space premise.
    overlap_right p c.requires.end.request c.requires.request c.requires.end says (c.bytes.ensures ∙ ap bytes_of c.at_level.ensures) plan none memory ended
    space premise)

pub returns-then-next-frames_end-clause-next : goal.returns-then-next-frames_end-clause-next
returns-then-next-frames_end-clause-next c = λ memory ended.
    let p = c.args.self.now in
    let says : meaning p.level c.args.word ≡ entry.Table c.in-Table.next c.in-Table.field-1 =
    ap (meaning p.level) (sym c.new.ensures) ∙ sym c.read.ensures ∙ c.in-Table.is in
    let refused = c.refuse-then-next-frames_end in
    planned_next p refused.new.self refused.result (ap (λ (q : Planner). q.target) refused.ensures.same)
    (ap (λ (q : Planner). q.request) refused.ensures.same) refused.ensures.planned
    (λ plan none space premise. beyond_right premise plan none
    (leads_beyond p.target (address_of p.request) p.level p.number p.rights c.requires.end.some ended.way
    (found_word p.level memory p.number (address_of p.request) c.args.word ended.word_is ∙ ap Some says)
    (c.index_at-index.ensures.is ∙ ap (λ r. index_at p.level (address_of r)) (sym c.requires.request))
    (omega (arith, c.frames_end.ensures.is, c.if-next-frames_end.true))))

pub returns-else-next-frames_end-clause-next : goal.returns-else-next-frames_end-clause-next
returns-else-next-frames_end-clause-next c = λ memory ended.
    let p = c.args.self.now in
    let says : meaning p.level c.args.word ≡ entry.Table c.in-Table.next c.in-Table.field-1 =
    ap (meaning p.level) (sym c.new.ensures) ∙ sym c.read.ensures ∙ c.in-Table.is in
    search_begins c.args.word c.requires.end c.requires.request says ended

pub returns-in-Reserved-clause-next : goal.returns-in-Reserved-clause-next
returns-in-Reserved-clause-next c = λ memory ended.
    let p = c.args.self.now in
    let says : meaning p.level c.args.word ≡ entry.Reserved =
    ap (meaning p.level) (sym c.new.ensures) ∙ sym c.read.ensures ∙ c.in-Reserved.is in
    planned_next p c.refuse-in-Reserved.new.self c.refuse-in-Reserved.result (ap (λ (q : Planner). q.target) c.refuse-in-Reserved.ensures.same)
    (ap (λ (q : Planner). q.request) c.refuse-in-Reserved.ensures.same) c.refuse-in-Reserved.ensures.planned
    (λ plan none space premise. reserved_right c.requires.end says plan memory ended space premise)
