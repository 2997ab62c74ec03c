use Rattle.std.proofs.Common.{ℕ, [], ◌∷◌, Option, Contains, refl, sym, ap, subst, arith}
use Rattle.std.specs.Prelude.{IfSome}
use Rattle.vs_types.proofs.Lists.{Contains-head}
use Rattle.vs_plan.specs.Planner.{Divides, IsSpareFor}
use Rattle.vs_plan.specs.Shown.{IsNext}
use Rattle.vs_plan.specs.declared.plans.planner.Planner.{Planner}
use Rattle.vs_plan.proofs.Giving.{give_due, waits_growth, waits_division, grown_shown, divided_shown}
use Rattle.vs_plan.proofs.Parts.{planned_next, nothing_right}
use Rattle.vs_plan.proofs.plans.planner.Planner.give.Goals as goal

pub returns-in_default-clause-next : goal.returns-in_default-clause-next
returns-in_default-clause-next c = λ memory shown spare.
    let p = c.args.self.now in
    planned_next p c.refuse.new.self c.refuse.result (ap (λ (q : Planner). q.target) c.refuse.ensures.same)
    (ap (λ (q : Planner). q.request) c.refuse.ensures.same) c.refuse.ensures.planned
    (λ plan none space premise.
    nothing_right premise (give_due p c.requires shown space premise) plan none tt
    (subst (λ (o : Option ℕ). Contains (c.args.frame ∷ []) o) c.in_default.is (Contains-head c.args.frame []))
    premise.translates refl)

pub returns-then-number-frames_end-clause-next : goal.returns-then-number-frames_end-clause-next
returns-then-number-frames_end-clause-next c = λ memory shown spare.
    let p = c.args.self.now in
    let refused = c.refuse-then-number-frames_end in
    planned_next p refused.new.self refused.result (ap (λ (q : Planner). q.target) refused.ensures.same)
    (ap (λ (q : Planner). q.request) refused.ensures.same) refused.ensures.planned
    (λ plan none space premise.
    nothing_right premise (give_due p c.requires shown space premise) plan none tt (
      subst (λ (o : Option ℕ). Contains (c.args.frame ∷ []) o) c.in-Some.is (Contains-head c.args.frame []),
      omega (arith, c.if-number-frames_end.true, c.frames_end.ensures.is),
    )
    premise.translates refl)

pub grow_on-requires-clause-awaits : goal.grow_on-requires-clause-awaits
grow_on-requires-clause-awaits c = waits_growth c.args.self.now c.requires c.in-Map.is

pub divide-requires-clause-awaits : goal.divide-requires-clause-awaits
divide-requires-clause-awaits c = waits_division c.args.self.now c.requires (subst Divides (sym c.in-Split.is) tt)

pub divide-requires-in-UnmapPart-clause-awaits : goal.divide-requires-in-UnmapPart-clause-awaits
divide-requires-in-UnmapPart-clause-awaits c = waits_division c.args.self.now c.requires (subst Divides (sym c.in-UnmapPart.is) tt)

pub returns-in-Map-clause-next : goal.returns-in-Map-clause-next
returns-in-Map-clause-next c = λ memory shown spare.
    let p = c.args.self.now in
    let awaits = waits_growth p c.requires c.in-Map.is in
    let spare_for : IsSpareFor memory p c.in-Some.number = subst (λ (o : Option ℕ). IfSome o (λ number. IsSpareFor memory p number)) c.in-Some.is spare in
    c.grow_on.ensures.next memory (c.args.frame ∷ []) (grown_shown p awaits shown) spare_for

pub returns-in-Split-clause-next : goal.returns-in-Split-clause-next
returns-in-Split-clause-next c = λ memory shown spare.
    let p = c.args.self.now in
    let awaits = waits_division p c.requires (subst Divides (sym c.in-Split.is) tt) in
    let spare_for : IsSpareFor memory p c.in-Some.number = subst (λ (o : Option ℕ). IfSome o (λ number. IsSpareFor memory p number)) c.in-Some.is spare in
    subst (λ (o : Option ℕ). IsNext memory c.divide.new.self (o ∷ []) c.divide.result) (sym c.in-Some.is)
    (c.divide.ensures.next memory (divided_shown p awaits shown) spare_for)

pub returns-in-UnmapPart-clause-next : goal.returns-in-UnmapPart-clause-next
returns-in-UnmapPart-clause-next c = λ memory shown spare.
    let p = c.args.self.now in
    let awaits = waits_division p c.requires (subst Divides (sym c.in-UnmapPart.is) tt) in
    let spare_for : IsSpareFor memory p c.in-Some.number = subst (λ (o : Option ℕ). IfSome o (λ number. IsSpareFor memory p number)) c.in-Some.is spare in
    subst (λ (o : Option ℕ). IsNext memory c.divide-in-UnmapPart.new.self (o ∷ []) c.divide-in-UnmapPart.result) (sym c.in-Some.is)
    (c.divide-in-UnmapPart.ensures.next memory (divided_shown p awaits shown) spare_for)
