use Rattle.std.proofs.Common.{◌≡◌, [], inl, refl, sym, subst, arith}
use Rattle.vs_plan.specs.declared.plans.request.Request.{Request}
use Rattle.vs_plan.specs.Request.{IsRequest}
use Rattle.nrvs_plan_c.specs.Kept.{target_in}
use Rattle.nrvs_plan_c.specs.Next.{IsPlanned}
use Rattle.nrvs_plan_c.proofs.CallKinds.{asks, protects, remaps, unmaps}
use Rattle.nrvs_plan_c.proofs.EndsHere.{map_good, maps_here, planned_here}
use Rattle.nrvs_plan_c.proofs.Shown.{end_down, good_down}
use Rattle.nrvs_plan_c.proofs.see.end_here.Goals as goal

pub end_map-requires-clause-bits : goal.end_map-requires-clause-bits
end_map-requires-clause-bits c = (map_good c.args.plan.now c.requires.descent c.requires.sound c.requires.last c.in-0.is).whole.bits

pub returns-in-0-clause-right : goal.returns-in-0-clause-right
returns-in-0-clause-right c =
    let plan = c.args.plan.now in
    let end = c.end_of-end.ensures in
    planned_here plan c.requires.descent c.requires.sound c.requires.last
    (maps_here plan c.requires.descent c.requires.sound c.requires.last c.in-0.is)
    c.end_map.ensures.right end.number end.index end.word end.allowed

pub returns-in-1-clause-right : goal.returns-in-1-clause-right
returns-in-1-clause-right c = λ memory shown there.
    let plan = c.args.plan.now in
    let end = c.end_of-end.ensures in
    let is = unmaps plan.call c.in-1.is in
    subst (λ (r : Request). IsPlanned (target_in plan.call) r memory c.end_unmap.new.plan []) (sym is)
    (c.end_unmap.ensures.right (target_in plan.call) memory
    (subst (IsRequest (target_in plan.call)) is (good_down plan c.requires.descent c.requires.sound))
    (end_down plan c.requires.descent c.requires.last shown there end.number end.index end.word end.allowed)
    (λ odd. inl (c.requires.stays c.in-1.is)))

pub returns-in-2-clause-right : goal.returns-in-2-clause-right
returns-in-2-clause-right c =
    let plan = c.args.plan.now in
    let end = c.end_of-end.ensures in
    planned_here plan c.requires.descent c.requires.sound c.requires.last (protects plan.call c.in-2.is)
    c.end_protect.ensures.right end.number end.index end.word end.allowed

pub returns-in-3-clause-right : goal.returns-in-3-clause-right
returns-in-3-clause-right c =
    let plan = c.args.plan.now in
    let end = c.end_of-end.ensures in
    planned_here plan c.requires.descent c.requires.sound c.requires.last (asks plan.call c.in-3.is)
    c.end_ask.ensures.right end.number end.index end.word end.allowed

pub returns-in_default-clause-right : goal.returns-in_default-clause-right
returns-in_default-clause-right c = λ memory shown there.
    let plan = c.args.plan.now in
    let end = c.end_of-end.ensures in
    let four : plan.call.kind ≡ 4 = omega (arith, c.requires.most, c.in_default) in
    let is = remaps plan.call four in
    subst (λ (r : Request). IsPlanned (target_in plan.call) r memory c.end_remap.new.plan []) (sym is)
    (c.end_remap.ensures.right (target_in plan.call) memory refl
    (subst (IsRequest (target_in plan.call)) is (good_down plan c.requires.descent c.requires.sound))
    (end_down plan c.requires.descent c.requires.last shown there end.number end.index end.word end.allowed))
