use Rattle.std.proofs.Common.{◌≡◌, ◌∙◌, None, sym, subst}
use Rattle.vs_types.specs.Space.{page_at}
use Rattle.vs_types.specs.Page.{IsPage}
use Rattle.vs_plain.specs.Plain.{BoundedSpace}
use Rattle.vs_plain.proofs.Neighbours.{overlapped_above, not_overlapped_far, not_overlapped_none, not_overlapped_small}
use Rattle.vs_plain.proofs.plain.PlainSpace.overlapped_above.Goals as goal

pub returns-in-K4 : goal.returns-in-K4
returns-in-K4 c =
    let free : None ≡ page_at c.self.inside.page_map c.args.page.base =
    subst (λ (k : BoundedSpace). None ≡ page_at k.space c.args.page.base) (sym c.self.view_is) (sym c.requires.free) in
    let good : IsPage c.self.inside.depth c.args.page = subst (λ (k : BoundedSpace). IsPage k.depth c.args.page) (sym c.self.view_is) c.requires.well_formed in
    rw (← c.self.view_is) (not_overlapped_small c.self.invariant.is_space c.args.page good c.in-K4.is free)

pub returns-in_err-above : goal.returns-in_err-above
returns-in_err-above c =
    let free : None ≡ page_at c.self.inside.page_map c.args.page.base =
    subst (λ (k : BoundedSpace). None ≡ page_at k.space c.args.page.base) (sym c.self.view_is) (sym c.requires.free) in
    rw (← c.self.view_is) (c.from_residual.ensures ∙ not_overlapped_none c.self.invariant.is_space c.args.page free c.in_err-above.ensures)

pub returns-then-reaches : goal.returns-then-reaches
returns-then-reaches c =
    let free : None ≡ page_at c.self.inside.page_map c.args.page.base =
    subst (λ (k : BoundedSpace). None ≡ page_at k.space c.args.page.base) (sym c.self.view_is) (sym c.requires.free) in
    rw (← c.self.view_is) (overlapped_above c.self.invariant.is_space c.args.page c.in_ok-above.above free c.in_ok-above.ensures (sym c.reaches.ensures
    ∙ c.if-reaches.true))

pub returns-else-reaches : goal.returns-else-reaches
returns-else-reaches c =
    let free : None ≡ page_at c.self.inside.page_map c.args.page.base =
    subst (λ (k : BoundedSpace). None ≡ page_at k.space c.args.page.base) (sym c.self.view_is) (sym c.requires.free) in
    rw (← c.self.view_is) (not_overlapped_far c.self.invariant.is_space c.args.page c.in_ok-above.above free c.in_ok-above.ensures (sym c.reaches.ensures
    ∙ c.if-reaches.false))
