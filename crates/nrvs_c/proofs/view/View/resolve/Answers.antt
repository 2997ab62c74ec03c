use Rattle.std.proofs.Common.{◌≡◌, sym, ap, subst, ◌∙◌}
use Rattle.vs_types.specs.Step.{look}
use Rattle.vs_types.specs.declared.addresses.depth.Depth.{Depth}
use Rattle.vs_walk.specs.Walk.{walk}
use Rattle.vs_walk.specs.declared.walk.Walk.{Walk}
use Rattle.nrvs_c.specs.inside.View.{lent_memory}
use Rattle.nrvs_c.specs.declared.table.Table.{Table}
use Rattle.nrvs_c.proofs.Views.{answer_of, answered, not_mapped}
use Rattle.nrvs_c.proofs.view.View.resolve.Goals as goal

pub returns-in-Mapped : goal.returns-in-Mapped
returns-in-Mapped c = λ space of.
    let table : Table = c.args.self.now.table.now in
    let walked = c.translate.ensures ∙ ap
    (λ (d : Depth). walk d (lent_memory table.base c.args.self.now.words.now) table.root c.args.address) c.depth.ensures in
    subst (λ (end : Walk). answer_of end ≡ look space c.args.address) c.in-Mapped.is
    (answered _ _ _ c.requires.open c.args.address c.translate.result c.requires.canonical of walked)

pub returns-in-NotMapped : goal.returns-in-NotMapped
returns-in-NotMapped c = λ space of.
    let table : Table = c.args.self.now.table.now in
    let walked = c.translate.ensures ∙ ap
    (λ (d : Depth). walk d (lent_memory table.base c.args.self.now.words.now) table.root c.args.address) c.depth.ensures in
    sym (not_mapped c.translate.result c.in-NotMapped.is) ∙ answered _ _ _ c.requires.open c.args.address c.translate.result c.requires.canonical of walked
