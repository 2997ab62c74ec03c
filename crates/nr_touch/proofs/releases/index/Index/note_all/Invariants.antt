use Rattle.std.proofs.Common.{ℕ, ◌<◌, get_or}
use Rattle.vs_types.specs.declared.addresses.page.Page.{Page}
use Rattle.nr_touch.specs.inside.Indexed.{IsIndexed}
use Rattle.nr_touch.proofs.releases.index.Index.note_all.Given as goal

abbrev pub invariant-loop-page : goal.invariant-loop-page
invariant-loop-page l = record {
  own : (k : ℕ) (d : Page) → k < l.page-index → IsIndexed l.self (get_or l.pages k d);
  others : (page : Page) → IsIndexed l.fn.self page → IsIndexed l.self page;
}
