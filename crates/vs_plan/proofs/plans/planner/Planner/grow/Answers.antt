use Rattle.std.proofs.Common.{◌≡◌, ◌≤◌, refl, ap, ◌∙◌, arith}
use Rattle.vs_types.specs.Page.{level_of}
use Rattle.vs_plan.specs.declared.plans.planner.Planner.{Planner}
use Rattle.vs_plan.specs.Request.{lowest_of}
use Rattle.vs_plan.proofs.Grown.{alone_right, growth_begins, wants_more}
use Rattle.vs_plan.proofs.Parts.{only_store, planned_next}
use Rattle.vs_plan.proofs.plans.planner.Planner.grow.Goals as goal

pub returns-then-not-permits-clause-next : goal.returns-then-not-permits-clause-next
returns-then-not-permits-clause-next c = λ memory ended.
    let p = c.args.self.now in
    let is = c.requires.request in
    let low : lowest_of p.request ≡ level_of c.args.page.size = ap lowest_of is in
    let lowest : level_of c.args.page.size ≤ p.level = omega (arith, low, c.requires.end.lowest) in
    planned_next p c.refuse.new.self c.refuse.result (ap (λ (q : Planner). q.target) c.refuse.ensures.same)
    (ap (λ (q : Planner). q.request) c.refuse.ensures.same) c.refuse.ensures.planned
    (λ plan none space premise.
    wants_more p c.requires.end.request is c.requires.end c.requires.absent lowest (c.permits.ensures.less c.if-not-permits.true) plan none memory ended
    space premise)

pub returns-then-self-level-clause-next : goal.returns-then-self-level-clause-next
returns-then-self-level-clause-next c = λ memory ended.
    let p = c.args.self.now in
    let is = c.requires.request in
    let low : lowest_of p.request ≡ level_of c.args.page.size = ap lowest_of is in
    let lowest : level_of c.args.page.size ≤ p.level = omega (arith, low, c.requires.end.lowest) in
    growth_begins p c.requires.end.request is c.requires.end c.requires.absent lowest (c.permits.ensures.all c.if-not-permits.false) ended
    c.level-self.ensures c.new-self.ensures

pub returns-clause-next : goal.returns-clause-next
returns-clause-next c =
    let p = c.args.self.now in
    let is = c.requires.request in
    let low : lowest_of p.request ≡ level_of c.args.page.size = ap lowest_of is in
    let lowest : level_of c.args.page.size ≤ p.level = omega (arith, low, c.requires.end.lowest) in
    alone_right p c.requires.end.request is c.requires.end c.requires.absent lowest (c.permits.ensures.all c.if-not-permits.false)
    (omega (arith, lowest, c.if-self-level.false, c.level.ensures)) c.page_word.ensures.written c.page_word.ensures.read_back
    c.nothing-plan.ensures.reply_is c.nothing-plan.ensures.bits_are c.nothing-plan.ensures.fill
    (c.push.ensures.items ∙ only_store c.nothing-plan.result.stores.items c.nothing-plan.ensures.stores p.number c.args.word c.index_at.ensures.is refl)
    c.nothing-plan.ensures.flush c.nothing-plan.ensures.unlinked
