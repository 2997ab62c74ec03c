use Rattle.std.proofs.Common.{◌≡◌, ◌∙◌, ℕ, inl, inr, Contains, sym}
use Rattle.vs_types.specs.Space.{Holds}
use Rattle.vs_types.specs.declared.addresses.page.Page.{Page}
use Rattle.nr_touch.specs.declared.changes.change.PlacedChange.{PlacedChange}
use Rattle.nr_touch.proofs.IndexRows.{one_further, same_last}
use Rattle.nr_touch.proofs.releases.index.changed_now.Goals as goal

pub loop-placed-preserved-then-eq : goal.loop-placed-preserved-then-eq
loop-placed-preserved-then-eq c =
    let inv = c.loop-placed.invariant in
    record {
      all = one_further (λ (change : PlacedChange). (page : Page) → Holds c.args.space.now.space page → page.base ≡ change.change.page.base
          → Contains c.loop-placed.found.items page) c.args.changes.now c.loop-placed.placed-index _ c.loop-placed-test.true inv.all
          (same_last c.loop-placed.last _ (λ (base : ℕ). (page : Page) → Holds c.args.space.now.space page → page.base ≡ base
          → Contains c.loop-placed.found.items page) (sym c.eq.ensures ∙ c.if-eq.true) inv.last);
      only = inv.only;
      last = inv.last;
    }

pub loop-placed-preserved : goal.loop-placed-preserved
loop-placed-preserved c =
    let inv = c.loop-placed.invariant in
    record {
      all = one_further (λ (change : PlacedChange). (page : Page) → Holds c.args.space.now.space page → page.base ≡ change.change.page.base
          → Contains c.add_from.new.found.items page) c.args.changes.now c.loop-placed.placed-index _ c.loop-placed-test.true
          (λ k d l page holds begins. c.in_ok-add_from.ensures.kept page (inv.all k d l page holds begins))
          (λ page holds begins. c.in_ok-add_from.ensures.own page holds begins);
      only = λ page has. elim (c.in_ok-add_from.ensures.only page has) [ inl was ↦ inv.only page was | inr holds ↦ holds ];
      last = c.in_ok-add_from.ensures.own;
    }
