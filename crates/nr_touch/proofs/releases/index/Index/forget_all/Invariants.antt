use Rattle.vs_types.specs.declared.addresses.page.Page.{Page}
use Rattle.nr_touch.specs.inside.Indexed.{HasOwn, IsIndexed}
use Rattle.nr_touch.proofs.releases.index.Index.forget_all.Given as goal

abbrev pub invariant-loop-placed : goal.invariant-loop-placed
invariant-loop-placed l = (page : Page) → (HasOwn l.changes page → ⊥) → IsIndexed l.fn.self page → IsIndexed l.self page
