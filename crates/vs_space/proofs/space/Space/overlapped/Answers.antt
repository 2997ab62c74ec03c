use Rattle.std.proofs.Common.{◌-◌, ⊎_elim, refl, ap, sym, subst, ◌∙◌}
use Rattle.vs_types.specs.Page.{bytes_of, IsPage}
use Rattle.vs_types.specs.declared.requests.op.Action.TheVariants.{Map}
use Rattle.vs_types.specs.declared.requests.answer.Answer.TheVariants as answers
use Rattle.vs_space.specs.Table.{PageTable, IsTableStep}
use Rattle.vs_space.specs.inside.Grow.{IsBelowRoot, IsLeastBase}
use Rattle.vs_space.proofs.Meets.{descended, met_inside}
use Rattle.vs_space.proofs.Maps.{reserved_never, leaf_overlaps, below_root, table_overlaps}
use Rattle.vs_space.proofs.space.Space.overlapped.Goals as goal

pub least_base-requires : goal.least_base-requires
least_base-requires g c =
    let inside = c.self.inside in
    let page = subst (λ (t : PageTable). IsPage t.depth c.args.page) (sym c.self.view_is) c.requires.page in
    let met = met_inside c.self.view_is c.requires.ended.1 in
    let descent = descended refl c.in-Table.is met.descent in (
      inside.depth,
      inside.root,
      subst (λ l. IsBelowRoot inside.depth inside.tables.memory inside.root c.args.page.base (l - 1) c.in-Table.table) (sym c.level-below.ensures)
          (below_root met.table page descent),
    )

pub returns-in-Table : goal.returns-in-Table
returns-in-Table g c =
    let inside = c.self.inside in
    let page = subst (λ (t : PageTable). IsPage t.depth c.args.page) (sym c.self.view_is) c.requires.page in
    let met = met_inside c.self.view_is c.requires.ended.1 in
    let descent = descended refl c.in-Table.is met.descent in
    let first = subst (λ l. IsBelowRoot inside.depth inside.tables.memory inside.root c.args.page.base (l - 1) c.in-Table.table
    → IsLeastBase inside.depth inside.tables.memory inside.root c.args.page.base (l - 1) c.least_base.result)
    c.level-below.ensures (c.least_base.ensures inside.depth inside.root) in
    subst (λ (t : PageTable). IsTableStep t (Map c.args.page) (answers.Overlap c.least_base.result) t) c.self.view_is
    (table_overlaps met.table page descent (first (below_root met.table page descent)))

pub returns-in-Leaf : goal.returns-in-Leaf
returns-in-Leaf g c =
    let met = c.requires.ended.1 in
    leaf_overlaps met.table c.requires.page (descended refl c.in-Leaf.is met.descent) (c.bytes-bytes.ensures ∙ ap bytes_of c.at_level.ensures)

pub unreachable-requires : goal.unreachable-requires
unreachable-requires g c =
    let met = c.requires.ended.1 in
    ⊎_elim (λ absent. c.requires.present absent) (λ reserved. reserved_never met.table c.requires.page (descended refl reserved met.descent)) c.in-Absent.is
