use Rattle.std.proofs.Common.{◌≡◌, ℕ, ap, sym, ◌∙◌, subst}
use Rattle.vs_types.specs.Space.{Space, pages}
use Rattle.vs_types.specs.declared.addresses.depth.Depth.{Depth}
use Rattle.vs_plain.specs.Plain.{BoundedSpace}
use Rattle.nr_audit.specs.Start.{space_of_pages}
use Rattle.nr_audit.specs.inside.Begun.{AreApart}
use Rattle.nr_audit.proofs.FilledSpaces.{of_own_pages, own_apart}
use Rattle.nr_audit.proofs.verdicts.start.copy.Goals as goal

bounded : (space : BoundedSpace) (depth : Depth) (limit : ℕ) (all : Space) → depth ≡ space.depth → limit ≡ space.limit → all ≡ space.space
    → record { depth = depth; limit = limit; space = all } ≡ space
bounded space depth limit all d l s = λ i. record { depth = d i; limit = l i; space = s i }

pub fill-requires-clause-apart : goal.fill-requires-clause-apart
fill-requires-clause-apart c =
    let depth : c.new-copy.result.depth ≡ c.args.space.now.depth = ap (λ (s : BoundedSpace). s.depth) c.new-copy.ensures ∙ c.depth.ensures in
    let list : c.deref.result.now ≡ pages c.args.space.now.space = c.deref.ensures.value ∙ c.in_ok-pages.ensures.lists in
    subst (λ depth. AreApart depth c.deref.result.now) (sym depth)
    (subst (λ list. AreApart c.args.space.now.depth list) (sym list) (own_apart c.in_ok-pages.ensures.apart))

pub returns : goal.returns
returns c =
    let list : c.deref.result.now ≡ pages c.args.space.now.space = c.deref.ensures.value ∙ c.in_ok-pages.ensures.lists in
    c.in_ok-fill.ensures
    ∙ ap (λ (s : BoundedSpace). record s { space = space_of_pages c.deref.result.now }) c.new-copy.ensures
    ∙ bounded c.args.space.now c.depth.result c.args.tables (space_of_pages c.deref.result.now) c.depth.ensures (sym c.requires)
    (ap space_of_pages list ∙ of_own_pages c.in_ok-pages.ensures.apart)
