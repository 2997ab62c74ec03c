use Rattle.std.proofs.Common.{sym, ap, subst, ◌∙◌}
use Rattle.vs_types.specs.Operation.{IsAction}
use Rattle.vs_types.specs.Step.{step}
use Rattle.vs_types.specs.declared.requests.op.Action.{Action}
use Rattle.nr_explain.specs.Facts.{asked_address}
use Rattle.nr_explain.proofs.Asking.{base_is, put_back_free, put_back_none, put_back_page, put_back_well, unmap_fits, with_space}
use Rattle.nr_explain.proofs.search.asking.ask_update.Goals as goal

pub of-requires : goal.of-requires
of-requires c =
    let old = c.args.space.now in
    let at = c.asked_address-base.ensures ∙ ap asked_address c.update.ensures in (
      old.depth,
      base_is old c.apply.new.self c.apply.new.self c.args.op c.asked_address-base.result c.page_from-page.ensures.is_space c.requires at
          c.in_ok-answer.ensures.ok.1,
    )

pub apply-requires-2 : goal.apply-requires-2
apply-requires-2 c =
    let old = c.args.space.now in
    let mid = c.apply.new.self in
    let at = c.asked_address-base.ensures ∙ ap asked_address c.update.ensures in
    subst (IsAction mid.depth) (sym c.of.ensures)
    (unmap_fits old mid mid c.args.op c.asked_address-base.result c.page_from-page.ensures.is_space c.requires at c.in_ok-answer.ensures.ok.1)

pub add-requires-clause-well_formed : goal.add-requires-clause-well_formed
add-requires-clause-well_formed c =
    let old = c.args.space.now in
    let mid = c.apply.new.self in
    let at = c.asked_address-base.ensures ∙ ap asked_address c.update.ensures in
    put_back_well old mid c.apply-2.new.self c.args.op c.asked_address-base.result c.page_from-page.ensures.is_space c.requires at
    c.in_ok-answer.ensures.ok.1 c.in_ok-apply.ensures.apart
    (c.in_ok-apply.ensures.ok.1 ∙ ap (λ (a : Action). with_space mid (step mid.depth mid.limit mid.space a).space) c.of.ensures)
    c.in-Some.page (sym c.page_from-page.ensures.page ∙ c.in-Some.is)

pub add-requires-clause-free : goal.add-requires-clause-free
add-requires-clause-free c =
    let old = c.args.space.now in
    let mid = c.apply.new.self in
    let at = c.asked_address-base.ensures ∙ ap asked_address c.update.ensures in
    put_back_free old mid c.apply-2.new.self c.args.op c.asked_address-base.result c.page_from-page.ensures.is_space c.requires at
    c.in_ok-answer.ensures.ok.1 c.in_ok-apply.ensures.apart
    (c.in_ok-apply.ensures.ok.1 ∙ ap (λ (a : Action). with_space mid (step mid.depth mid.limit mid.space a).space) c.of.ensures)
    c.in-Some.page (sym c.page_from-page.ensures.page ∙ c.in-Some.is)

pub returns-in_ok-add-clause-answer : goal.returns-in_ok-add-clause-answer
returns-in_ok-add-clause-answer c = c.in_ok-answer.ensures.ok.0

pub returns-in_ok-add-clause-stays : goal.returns-in_ok-add-clause-stays
returns-in_ok-add-clause-stays c =
    let old = c.args.space.now in
    let mid = c.apply.new.self in
    let at = c.asked_address-base.ensures ∙ ap asked_address c.update.ensures in
    put_back_page old mid c.apply-2.new.self c.args.op c.asked_address-base.result c.page_from-page.ensures.is_space c.requires at
    c.in_ok-answer.ensures.ok.1 c.in_ok-apply.ensures.apart
    (c.in_ok-apply.ensures.ok.1 ∙ ap (λ (a : Action). with_space mid (step mid.depth mid.limit mid.space a).space) c.of.ensures)
    c.in-Some.page (sym c.page_from-page.ensures.page ∙ c.in-Some.is) c.add.new.self c.in_ok-add.ensures.ok

pub returns-in_default-clause-answer : goal.returns-in_default-clause-answer
returns-in_default-clause-answer c = c.in_ok-answer.ensures.ok.0

pub returns-in_default-clause-stays : goal.returns-in_default-clause-stays
returns-in_default-clause-stays c =
    let old = c.args.space.now in
    let mid = c.apply.new.self in
    let at = c.asked_address-base.ensures ∙ ap asked_address c.update.ensures in
    put_back_none old mid c.apply-2.new.self c.args.op c.asked_address-base.result c.page_from-page.ensures.is_space c.requires at
    c.in_ok-answer.ensures.ok.1 c.in_ok-apply.ensures.apart
    (c.in_ok-apply.ensures.ok.1 ∙ ap (λ (a : Action). with_space mid (step mid.depth mid.limit mid.space a).space) c.of.ensures)
    (sym c.page_from-page.ensures.page ∙ c.in_default.is)
