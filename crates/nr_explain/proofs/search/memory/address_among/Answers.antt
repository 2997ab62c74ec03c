use Rattle.std.proofs.Common.{sym, subst, arith}
use Rattle.std.proofs.lemmas.List.Elements.{Contains-get_or}
use Rattle.vs_types.specs.declared.addresses.page.Page.{Page}
use Rattle.nr_explain.specs.inside.Nearest.{LeadsTo}
use Rattle.nr_explain.proofs.search.memory.address_among.Goals as goal

pub address_in-requires : goal.address_in-requires
address_in-requires c = c.requires _ (Contains-get_or c.args.pages.now c.loop-page.page-index _ c.loop-page-test.true)

pub returns-in-Some-clause-some : goal.returns-in-Some-clause-some
returns-in-Some-clause-some c = (_, Contains-get_or c.args.pages.now c.loop-page.page-index _ c.loop-page-test.true, c.in-Some.ensures.some)

pub returns-clause-none : goal.returns-clause-none
returns-clause-none c = λ page there address to.
    let within = there.1 in
    c.loop-page.invariant there.0 page (omega arith) address (subst (λ (p : Page). LeadsTo p address c.args.phys) (sym there.2) to)
