use Rattle.std.proofs.Common.{ℕ, List, Contains, subst, ◌∙◌}
use Rattle.std.specs.Prelude.{IfNone, IfSome}
use Rattle.vs_types.specs.declared.addresses.page.Page.{Page}
use Rattle.nr_explain.specs.inside.Nearest.{LeadsTo}
use Rattle.nr_explain.proofs.Memories.{page_listed, where_found}
use Rattle.nr_explain.proofs.search.memory.where_is.Goals as goal

pub address_among-requires : goal.address_among-requires
address_among-requires c = λ page there.
    page_listed c.in_ok-pages.ensures.apart page
    (subst (λ (ps : List Page). Contains ps page) (c.as_slice.ensures.value ∙ c.in_ok-pages.ensures.lists) there)

pub returns : goal.returns
returns c =
    let all = c.as_slice.ensures.value ∙ c.in_ok-pages.ensures.lists in
    let found = c.address_among.result in
    where_found c.in_ok-pages.ensures.apart c.args.phys found
    (subst (λ (ps : List Page). IfNone found ((page : Page) → Contains ps page → (address : ℕ) → LeadsTo page address c.args.phys → ⊥)) all
    c.address_among.ensures.none)
    (subst (λ (ps : List Page). IfSome found (λ address. (page : Page) × Contains ps page × LeadsTo page address c.args.phys)) all
    c.address_among.ensures.some)
