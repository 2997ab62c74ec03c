use Rattle.std.proofs.Common.{◌≡◌, ℕ, ◌<◌, get_or, Contains, IfSome}
use Rattle.vs_types.specs.Space.{Holds}
use Rattle.vs_types.specs.declared.addresses.page.Page.{Page}
use Rattle.nr_touch.specs.declared.changes.change.PlacedChange.{PlacedChange}
use Rattle.nr_touch.proofs.releases.index.changed_now.Given as goal

abbrev pub invariant-loop-placed : goal.invariant-loop-placed
invariant-loop-placed l = record {
  all : (k : ℕ) (d : PlacedChange) → k < l.placed-index → (page : Page) → Holds l.space.space page → page.base ≡ (get_or l.changes k d).change.page.base
      → Contains l.found.items page;
  only : (page : Page) → Contains l.found.items page → Holds l.space.space page;
  last : IfSome l.last (λ base. (page : Page) → Holds l.space.space page → page.base ≡ base → Contains l.found.items page);
}
