use Rattle.std.proofs.Common.{◌+◌, ◌^◌, ◌≤◌, sym, subst, ◌∙◌}
use Rattle.vs_types.specs.Page.{bytes_of}
use Rattle.vs_types.specs.declared.addresses.page.Size.{Size}
use Rattle.vs_plan.proofs.Remapping.{phys_good}
use Rattle.vs_plan.proofs.tables.collapse.not_over.Goals as goal

pub returns-clause-within : goal.returns-clause-within
returns-clause-within c = λ none. subst (λ (z : Size). c.args.phys + bytes_of z ≤ 2 ^ 51) c.larger-whole.ensures
    (phys_good c.args.phys c.args.phys_bits c.larger-whole.result (sym c.phys_refusal.ensures ∙ none)).1
