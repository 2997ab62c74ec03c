use Rattle.std.proofs.Common.{◌≡◌, ◌+◌, ◌≤◌, length, ap, ◌∙◌, arith}
use Rattle.vs_types.specs.Entry.{meaning}
use Rattle.vs_types.specs.Page.{level_of}
use Rattle.vs_plan.specs.Request.{lowest_of}
use Rattle.vs_types.proofs.Pages.{level_some}
use Rattle.vs_plan.proofs.Grown.{grown_more}
use Rattle.vs_plan.proofs.plans.planner.Planner.fill.Goals as goal
use Rattle.vs_plan.proofs.plans.planner.Planner.fill.Goals.{then-self-level, else-self-level}

pub returns-clause-grown : goal.returns-clause-grown
returns-clause-grown c = λ memory grown spare.
    let p = c.args.self.now in
    let page = c.args.page in
    let is = c.requires.request in
    let low : lowest_of p.request ≡ level_of page.size = ap lowest_of is in
    let lowest : level_of page.size ≤ p.height = omega (arith, low, c.requires.awaits.lowest) in
    let count : length p.stores.items + level_of page.size ≡ p.height = omega (arith, low, c.requires.awaits.stores) in
    elim c.if-self-level.branch [
      | then-self-level w ↦
          grown_more grown is lowest count spare c.requires.within
          (λ at. (w.new-is ∙ w.page_word-new.ensures.written, ap (meaning (level_of page.size)) w.new-is ∙ w.page_word-new.ensures.read_back))
          (λ above. absurd (omega (arith, above, w.if-self-level.true, c.level.ensures)))
          c.index_at.ensures.is c.push.ensures.items
      | else-self-level w ↦
          grown_more grown is lowest count spare c.requires.within
          (λ at. absurd (w.if-self-level.false (omega (arith, at, c.level.ensures))))
          (λ above. (
            w.new-is ∙ w.word-new.ensures ∙ w.table.ensures.written,
            ap (meaning p.height) (w.new-is ∙ w.word-new.ensures) ∙ w.table.ensures.read_back p.height (omega (arith, above, level_some page.size)),
          ))
          c.index_at.ensures.is c.push.ensures.items
    ]
