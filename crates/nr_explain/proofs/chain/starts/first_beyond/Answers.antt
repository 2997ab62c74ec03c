use Rattle.std.proofs.Common.{◌+◌, ◌<◌, ap, sym, subst, ◌∙◌, arith}
use Rattle.vs_types.specs.Page.{bytes_of}
use Rattle.vs_types.specs.declared.addresses.page.Page.{Page}
use Rattle.vs_types.specs.declared.addresses.page.TheConstants.Page.{PHYS_END}
use Rattle.nr_explain.proofs.chain.starts.first_beyond.Goals as goal

pub returns-clause-none : goal.returns-clause-none
returns-clause-none c = λ page there base high.
    let within = there.1 in
    c.loop-page.invariant there.0 page (omega arith) (ap (λ (p : Page). p.base) there.2 ∙ base)
    (subst (λ (p : Page). PHYS_END < p.phys + bytes_of p.size) (sym there.2) high)
