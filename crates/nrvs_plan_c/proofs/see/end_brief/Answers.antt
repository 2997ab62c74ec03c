use Rattle.std.proofs.Common.{◌≤◌, [], sym, subst, arith}
use Rattle.vs_plan.specs.declared.plans.request.Request.{Request}
use Rattle.vs_plan.specs.Request.{IsRequest}
use Rattle.nrvs_plan_c.specs.Kept.{target_in}
use Rattle.nrvs_plan_c.specs.Next.{IsPlanned}
use Rattle.nrvs_plan_c.proofs.CallKinds.{unmaps}
use Rattle.nrvs_plan_c.proofs.EndsHere.{made_seen, stays_here, word_here}
use Rattle.nrvs_plan_c.proofs.Shown.{end_down, good_down}
use Rattle.nrvs_plan_c.proofs.see.end_brief.Goals as goal

pub returns-then-stays : goal.returns-then-stays
returns-then-stays g c =
    let plan = c.args.plan.now in
    let down : plan.way.phase ≤ 1 = omega (arith, c.requires.brief) in
    let last = c.if-plan-eq1.true in
    let end = c.end_of-end.ensures in
    let is = unmaps plan.call c.if-plan-eq1-2.true in
    made_seen c.end_unmap.ensures.made c.end_unmap.ensures.call (λ memory shown there.
    let word = word_here plan down c.requires.sound last memory c.requires.read there in
    subst (λ (r : Request). IsPlanned (target_in plan.call) r memory c.end_unmap.new.plan []) (sym is)
    (c.end_unmap.ensures.right (target_in plan.call) memory
    (subst (IsRequest (target_in plan.call)) is (good_down plan down c.requires.sound))
    (end_down plan down last shown word end.number end.index end.word end.allowed)
    (λ odd. stays_here plan down c.requires.sound last memory c.end_of-end.result there end.number end.index (c.stays.ensures c.if-stays.true odd))))
