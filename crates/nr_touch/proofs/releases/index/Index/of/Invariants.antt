use Rattle.std.proofs.Common.{Contains}
use Rattle.vs_types.specs.declared.addresses.page.Page.{Page}
use Rattle.nr_touch.specs.inside.Indexed.{IsIndexed}
use Rattle.nr_touch.proofs.releases.index.Index.of.Given as goal

abbrev pub invariant-loop-page : goal.invariant-loop-page
invariant-loop-page l = (page : Page) → Contains l.yielded page → IsIndexed l.index page
