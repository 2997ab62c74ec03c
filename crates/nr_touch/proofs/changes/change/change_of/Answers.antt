use Rattle.std.proofs.Common.{◌≡◌, sym, ap, ◌∙◌, subst}
use Rattle.vs_types.specs.Operation.{IsAction}
use Rattle.vs_types.specs.Step.{step}
use Rattle.vs_types.specs.declared.requests.op.Action.TheVariants.{Map, Unmap, Protect}
use Rattle.nr_touch.proofs.StepChanges.{map_change, unmap_change, protect_change}
use Rattle.nr_touch.proofs.changes.change.change_of.Goals as goal

pub returns-in-Map : goal.returns-in-Map
returns-in-Map c = λ before is good told same.
    let now = c.args.space.now in
    let op : c.args.op ≡ Map c.in-Map.page = sym c.action.ensures.reads ∙ c.in-Map.is in
    map_change now.limit is c.in-Map.page (subst (IsAction now.depth) op good) c.args.answer now.space c.mapped.result
    c.mapped.ensures.found c.mapped.ensures.none
    (told ∙ ap (λ o. (step now.depth now.limit before o).answer) op) (same ∙ ap (λ o. (step now.depth now.limit before o).space) op)

pub returns-in-Unmap : goal.returns-in-Unmap
returns-in-Unmap c = λ before is good told same.
    let now = c.args.space.now in
    let op : c.args.op ≡ Unmap c.in-Unmap.base = sym c.action.ensures.reads ∙ c.in-Unmap.is in
    unmap_change now.limit is c.in-Unmap.base c.args.answer now.space c.unmapped.result
    c.unmapped.ensures.found c.unmapped.ensures.none
    (told ∙ ap (λ o. (step now.depth now.limit before o).answer) op) (same ∙ ap (λ o. (step now.depth now.limit before o).space) op)

pub returns-in-Protect : goal.returns-in-Protect
returns-in-Protect c = λ before is good told same.
    let now = c.args.space.now in
    let op : c.args.op ≡ Protect c.in-Protect.base c.in-Protect.rights = sym c.action.ensures.reads ∙ c.in-Protect.is in
    protect_change now.limit is c.in-Protect.base c.in-Protect.rights c.args.answer now.space c.protected.result
    c.protected.ensures.found c.protected.ensures.same c.protected.ensures.none
    (told ∙ ap (λ o. (step now.depth now.limit before o).answer) op) (same ∙ ap (λ o. (step now.depth now.limit before o).space) op)
