use Rattle.std.proofs.Common.{◌≡◌, ◌<◌, ◌++◌, [], ◌∷◌, ap, ◌∙◌, arith}
use Rattle.std.specs.Prelude.{slice_index}
use Rattle.arrayvec.specs.ArrayVec.{ArrayVec}
use Rattle.vs_types.specs.Entry.{meaning}
use Rattle.vs_types.specs.Page.{level_of}
use Rattle.vs_types.proofs.Pages.{level_some}
use Rattle.vs_plan.specs.declared.plans.plan.Store.{Store}
use Rattle.vs_plan.specs.Request.{lowest_of}
use Rattle.vs_plan.proofs.Grown.{link_right}
use Rattle.vs_plan.proofs.Parts.{store_at}
use Rattle.vs_plan.proofs.plans.planner.Planner.link.Goals as goal

pub returns-clause-next : goal.returns-clause-next
returns-clause-next c = λ memory offered grown space premise.
    let p = c.args.self.now in
    let page = c.args.page in
    let is = c.requires.request.1 in
    let low : lowest_of p.request ≡ level_of page.size = ap lowest_of is in
    let deep : level_of page.size < p.level = omega (arith, low, c.requires.filled.lowest) in
    link_right p c.requires.filled.request is grown c.requires.filled.some deep c.requires.filled.height c.word.result
    (c.word.ensures ∙ c.table.ensures.written)
    (ap (meaning p.level) c.word.ensures ∙ c.table.ensures.read_back p.level (omega (arith, deep, level_some page.size)))
    c.nothing-plan.ensures.reply_is c.nothing-plan.ensures.bits_are c.nothing-plan.ensures.fill
    (ap (λ (v : ArrayVec Store). v.items) c.replace-plan.ensures.value ∙ c.push.ensures.items
    ∙ ap (λ i. p.stores.items ++ store_at p.number i (slice_index p.words p.level) c.word.result ∷ []) c.index_at.ensures.is)
    c.nothing-plan.ensures.flush c.nothing-plan.ensures.unlinked space premise
