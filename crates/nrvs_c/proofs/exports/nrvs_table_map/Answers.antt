use Rattle.std.proofs.Common.{sym, ap, ◌∙◌}
use Rattle.vs_types.specs.Operation.{page_fault}
use Rattle.vs_types.specs.declared.addresses.depth.Depth.{Depth}
use Rattle.vs_types.specs.declared.addresses.page.Page.{Page}
use Rattle.nrvs_c.specs.Status.{status_if}
use Rattle.nrvs_c.proofs.Pages.{page_is}
use Rattle.nrvs_c.proofs.exports.nrvs_table_map.Goals as goal

pub returns-in-Ok-clause-status : goal.returns-in-Ok-clause-status
returns-in-Ok-clause-status c = λ _ page base size phys rights.
    let own : Page = record { base = c.args.base; size = c.in-Some.size; rights = c.in-Some-rights_of.rights; phys = c.args.physical } in
    let same = page_is page own base (sym size ∙ c.in-Some.ensures) phys (sym rights ∙ c.in-Some-rights_of.ensures) in
    sym (ap status_if (ap (λ (d : Depth). page_fault d page) (sym c.depth.ensures) ∙ ap (page_fault c.depth.result) same ∙ c.in-Ok.ensures.0))
