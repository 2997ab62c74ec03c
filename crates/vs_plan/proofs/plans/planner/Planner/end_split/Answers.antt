use Rattle.std.proofs.Common.{◌≡◌, ◌≢◌, ◌-◌, ◌%◌, refl, sym, ap, subst, ◌∙◌, arith}
use Rattle.vs_types.specs.Entry.{meaning, size_at}
use Rattle.vs_types.specs.Page.{bytes_of}
use Rattle.vs_types.specs.declared.requests.answer.Answer.TheVariants as answers
use Rattle.vs_types.specs.declared.entries.entry.Meaning.TheVariants as entry
use Rattle.vs_plan.specs.declared.plans.plan.Reply.TheVariants as replies
use Rattle.vs_plan.specs.declared.plans.planner.Planner.{Planner}
use Rattle.vs_plan.specs.inside.Ended.{ChangesNothing}
use Rattle.vs_plan.proofs.Divided.{division_begins, divides_page, smallest_right}
use Rattle.vs_plan.proofs.Parts.{planned_next}
use Rattle.vs_plan.proofs.plans.planner.Planner.end_split.Goals as goal
use Rattle.vs_plan.proofs.Asking.{inside_right}

pub plan_absent-plan-requires-clause-no_map : goal.plan_absent-plan-requires-clause-no_map
plan_absent-plan-requires-clause-no_map c = (divides_page c.args.self.now.request c.requires.divides).0

pub returns-in_default-clause-next : goal.returns-in_default-clause-next
returns-in_default-clause-next c = λ memory ended space premise. c.plan_absent-plan.ensures memory ended space premise

pub returns-then-offset-ne0-clause-next : goal.returns-then-offset-ne0-clause-next
returns-then-offset-ne0-clause-next c = λ memory ended.
    let p = c.args.self.now in
    let says : meaning p.level c.args.word ≡ entry.Leaf c.in-Leaf.field-0 c.in-Leaf.field-1 =
    ap (meaning p.level) (sym c.new.ensures) ∙ sym c.read.ensures ∙ c.in-Leaf.is in
    planned_next p c.refuse.new.self c.refuse.result (ap (λ (q : Planner). q.target) c.refuse.ensures.same)
    (ap (λ (q : Planner). q.request) c.refuse.ensures.same) c.refuse.ensures.planned
    (λ plan none space premise.
    inside_right c.requires.end says refl (divides_page p.request c.requires.divides).1 (c.bytes.ensures ∙ ap bytes_of c.at_level.ensures)
    (subst (λ a. a % c.bytes.result ≢ 0) (sym c.requires.place) c.if-offset-ne0.true) plan
    (subst (λ a. ChangesNothing (replies.Answer (answers.Inside (a - a % c.bytes.result))) 0 plan) (sym c.requires.place) none)
    memory ended space premise)

pub returns-then-self-eq1-clause-next : goal.returns-then-self-eq1-clause-next
returns-then-self-eq1-clause-next c = λ memory ended.
    let p = c.args.self.now in
    let says : meaning p.level c.args.word ≡ entry.Leaf c.in-Leaf.field-0 c.in-Leaf.field-1 =
    ap (meaning p.level) (sym c.new.ensures) ∙ sym c.read.ensures ∙ c.in-Leaf.is in
    let bytes : c.bytes.result ≡ bytes_of (size_at p.level) = c.bytes.ensures ∙ ap bytes_of c.at_level.ensures in
    let refused = c.refuse-then-self-eq1 in
    planned_next p refused.new.self refused.result (ap (λ (q : Planner). q.target) refused.ensures.same)
    (ap (λ (q : Planner). q.request) refused.ensures.same) refused.ensures.planned
    (λ plan none space premise.
    smallest_right c.requires.end says c.requires.divides c.requires.place (subst (λ n. c.args.base % n ≡ 0) bytes c.if-offset-ne0.false)
    c.if-self-eq1.true plan none
    memory ended space premise)

pub returns-clause-next : goal.returns-clause-next
returns-clause-next c = λ memory ended.
    let p = c.args.self.now in
    let says : meaning p.level c.args.word ≡ entry.Leaf c.in-Leaf.field-0 c.in-Leaf.field-1 =
    ap (meaning p.level) (sym c.new.ensures) ∙ sym c.read.ensures ∙ c.in-Leaf.is in
    let bytes : c.bytes.result ≡ bytes_of (size_at p.level) = c.bytes.ensures ∙ ap bytes_of c.at_level.ensures in
    division_begins c.requires.end says c.requires.divides c.requires.place (subst (λ n. c.args.base % n ≡ 0) bytes c.if-offset-ne0.false)
    (omega (arith, c.requires.end.some, c.if-self-eq1.false)) ended _ _
