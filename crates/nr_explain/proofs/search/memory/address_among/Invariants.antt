use Rattle.std.proofs.Common.{ℕ, ◌<◌, get_or}
use Rattle.vs_types.specs.declared.addresses.page.Page.{Page}
use Rattle.nr_explain.specs.inside.Nearest.{LeadsTo}
use Rattle.nr_explain.proofs.search.memory.address_among.Given as goal

abbrev pub invariant-loop-page : goal.invariant-loop-page
invariant-loop-page l = (k : ℕ) (blank : Page) → k < l.page-index → (address : ℕ) → LeadsTo (get_or l.pages k blank) address l.phys → ⊥
