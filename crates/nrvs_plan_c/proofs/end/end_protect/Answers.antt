use Rattle.std.proofs.Common.{refl, sym, ap, ◌∙◌, ⊎_elim}
use Rattle.std.proofs.lemmas.Bool.{cases_eq}
use Rattle.vs_types.specs.declared.addresses.page.Rights.{Rights}
use Rattle.vs_types.specs.Bits.{with_rights}
use Rattle.nrvs_plan_c.proofs.EndsRight.{grants, lacks, protect_absent, protect_less, protect_same, protect_written}
use Rattle.nrvs_plan_c.proofs.EndsTold.{planned_none, planned_store}
use Rattle.nrvs_plan_c.proofs.end.end_protect.Goals as goal

pub returns-then-not-is_page-clause-right : goal.returns-then-not-is_page-clause-right
returns-then-not-is_page-clause-right c = λ target memory good is.
    planned_none c.with-absent.ensures refl refl c.write_none.ensures.none (protect_absent good is (c.is_page.ensures.none c.if-not-is_page.true))

pub returns-then-not-permits-clause-right : goal.returns-then-not-permits-clause-right
returns-then-not-permits-clause-right c = λ target memory good is.
    planned_none c.with-narrow.ensures refl refl c.write_none-then-not-permits.ensures.none
    (protect_less good is (c.is_page.ensures.page c.if-not-is_page.false)
    (lacks c.rights_at-above.ensures c.rights_in-rights.ensures (c.permits.ensures.less c.if-not-permits.true)))

pub returns-clause-right : goal.returns-clause-right
returns-clause-right c = λ target memory good is.
    let odd = c.is_page.ensures.page c.if-not-is_page.false in
    let allows = grants c.rights_at-above.ensures c.rights_in-rights.ensures (c.permits.ensures.all c.if-not-permits.false) in
    let written = c.with_rights-new.ensures ∙ ap (λ (r : Rights). with_rights c.args.end.word r) c.rights_in-rights.ensures in
    ⊎_elim
    (λ same. planned_none refl refl refl (c.write_change.ensures.same same) (protect_same good is odd allows (sym same ∙ written)))
    (λ other. planned_store refl refl refl (c.write_change.ensures.other other) written refl
    (protect_written good is odd allows (λ e. other (written ∙ sym e))))
    (cases_eq c.with_rights-new.result c.args.end.word)
