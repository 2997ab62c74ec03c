use Rattle.std.proofs.Common.{◌≡◌, sym, ap, ◌∙◌, subst, None}
use Rattle.std.specs.FinMap as finite
use Rattle.vs_types.specs.Space.{Space, least_overlapped}
use Rattle.vs_types.specs.Step.{step}
use Rattle.vs_types.specs.declared.requests.op.Action.{Action}
use Rattle.vs_plain.specs.Plain.{BoundedSpace}
use Rattle.nr_touch.proofs.Undone.{page_base, page_comes_back, page_goes, page_is_free, unmapped}
use Rattle.nr_touch.proofs.changes.undo.undo.Goals as goal

abbrev with_space : BoundedSpace → Space → BoundedSpace
with_space bounded space = record bounded { space = space }

pub of-requires : goal.of-requires
of-requires c =
    let (before, from) = c.requires in
    (c.args.space.now.depth, page_base c.args.space.now.depth c.args.change.page from.changed.well_formed)

pub apply-requires : goal.apply-requires
apply-requires c =
    let (before, from) = c.requires in
    rw c.of.ensures
    (page_base c.args.space.now.depth c.args.change.page from.changed.well_formed)

pub add-requires-clause-well_formed : goal.add-requires-clause-well_formed
add-requires-clause-well_formed c =
    let (before, from) = c.requires in
    rw (ap (λ (s : BoundedSpace). s.depth) c.in_ok-apply.ensures.ok.1) from.changed.well_formed

pub add-requires-clause-free : goal.add-requires-clause-free
add-requires-clause-free c =
    let old = c.args.space.now in
    let base = c.args.change.page.base in
    let (before, from) = c.requires in
    let taken : c.apply.new.self.space ≡ finite.remove old.space base =
    ap (λ (s : BoundedSpace). s.space) c.in_ok-apply.ensures.ok.1 ∙ ap (λ (a : Action). (step old.depth old.limit old.space a).space) c.of.ensures
    ∙ unmapped c.in_ok-apply.ensures.apart old.limit base in
    subst (λ (s : Space). least_overlapped s c.args.change.page ≡ None) (sym taken) (page_is_free c.args.change from c.if-change.true)

pub returns-in_ok-add : goal.returns-in_ok-add
returns-in_ok-add c = λ before from.
    let old = c.args.space.now in
    let page = c.args.change.page in
    let taken : c.apply.new.self ≡ with_space old (finite.remove old.space page.base) =
    c.in_ok-apply.ensures.ok.1 ∙ ap (λ (a : Action). with_space old (step old.depth old.limit old.space a).space) c.of.ensures
    ∙ ap (with_space old) (unmapped c.in_ok-apply.ensures.apart old.limit page.base) in
    c.in_ok-add.ensures.ok
    ∙ ap (λ (s : BoundedSpace). with_space s (finite.insert s.space page.base page)) taken
    ∙ ap (with_space old) (page_comes_back c.args.change from c.if-change.true)

pub returns-else-change : goal.returns-else-change
returns-else-change c = λ before from.
    let old = c.args.space.now in
    let base = c.args.change.page.base in
    c.in_ok-apply.ensures.ok.1 ∙ ap (λ (a : Action). with_space old (step old.depth old.limit old.space a).space) c.of.ensures
    ∙ ap (with_space old) (unmapped c.in_ok-apply.ensures.apart old.limit base ∙ page_goes c.args.change from c.if-change.false)
