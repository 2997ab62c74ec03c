use Rattle.std.proofs.Common.{◌≡◌, Some, None, ⊎_elim, refl, sym, ap, ◌∙◌, ◌+◌, ◌^◌, min, arith}
use Rattle.std.specs.Prelude.{nat_lt, if◌then◌else◌}
use Rattle.std.proofs.lemmas.Bool.{cases_eq}
use Rattle.vs_types.specs.declared.addresses.page.Rights.{Rights}
use Rattle.vs_types.specs.declared.addresses.page.Size.TheVariants.{K4}
use Rattle.vs_types.specs.Bits.{with_address, with_rights}
use Rattle.vs_plan.specs.Changes.{phys_refusal}
use Rattle.vs_plan.specs.declared.plans.plan.Reply.TheVariants as replies
use Rattle.nrvs_plan_c.proofs.EndsRight.{grants, in_order, lacks, remap_absent, remap_less, remap_refused, remap_same, remap_written, unaligned}
use Rattle.nrvs_plan_c.proofs.AtOnce.{ends_within}
use Rattle.nrvs_plan_c.proofs.EndsTold.{planned_none, planned_store}
use Rattle.nrvs_plan_c.proofs.end.end_remap.Goals as goal

pub returns-then-not-is_page-clause-right : goal.returns-then-not-is_page-clause-right
returns-then-not-is_page-clause-right c = λ target memory bits good is.
    planned_none c.with-absent.ensures refl refl c.write_none.ensures.none (remap_absent good is (c.is_page.ensures.none c.if-not-is_page.true))

pub returns-then-physical-ne0-clause-right : goal.returns-then-physical-ne0-clause-right
returns-then-physical-ne0-clause-right c = λ target memory bits good is.
    planned_none c.with-unaligned.ensures refl refl c.write_none-then-physical-ne0.ensures.none
    (remap_refused good is (c.is_page.ensures.page c.if-not-is_page.false) (unaligned c.args.physical target.phys_bits c.if-physical-ne0.true))

pub returns-then-ends_beyond-clause-right : goal.returns-then-ends_beyond-clause-right
returns-then-ends_beyond-clause-right c = λ target memory bits good is.
    let beyond = ap (λ n. nat_lt (2 ^ min n 51) (c.args.physical + 4096)) bits ∙ sym c.ends_beyond.ensures ∙ c.if-ends_beyond.true in
    planned_none c.with-beyond.ensures refl refl c.write_none-then-ends_beyond.ensures.none
    (remap_refused good is (c.is_page.ensures.page c.if-not-is_page.false)
    (in_order c.args.physical target.phys_bits c.if-physical-ne0.false ∙ ap (λ b. if b then Some replies.PhysRange else None) beyond))

pub returns-then-not-permits-clause-right : goal.returns-then-not-permits-clause-right
returns-then-not-permits-clause-right c = λ target memory bits good is.
    let within = ap (λ n. nat_lt (2 ^ min n 51) (c.args.physical + 4096)) bits ∙ sym c.ends_beyond.ensures ∙ c.if-ends_beyond.false in
    planned_none c.with-narrow.ensures refl refl c.write_none-then-not-permits.ensures.none
    (remap_less good is (c.is_page.ensures.page c.if-not-is_page.false)
    (in_order c.args.physical target.phys_bits c.if-physical-ne0.false ∙ ap (λ b. if b then Some replies.PhysRange else None) within)
    (lacks c.rights_at-above.ensures c.rights_in-rights.ensures (c.permits.ensures.less c.if-not-permits.true)))

pub returns-clause-right : goal.returns-clause-right
returns-clause-right c = λ target memory bits good is.
    let odd = c.is_page.ensures.page c.if-not-is_page.false in
    let within = ap (λ n. nat_lt (2 ^ min n 51) (c.args.physical + 4096)) bits ∙ sym c.ends_beyond.ensures ∙ c.if-ends_beyond.false in
    let none : phys_refusal c.args.physical target.phys_bits K4 ≡ None =
    in_order c.args.physical target.phys_bits c.if-physical-ne0.false ∙ ap (λ b. if b then Some replies.PhysRange else None) within in
    let allows = grants c.rights_at-above.ensures c.rights_in-rights.ensures (c.permits.ensures.all c.if-not-permits.false) in
    let written = c.with_rights-new.ensures ∙ ap (λ w. with_rights w c.rights_in-rights.result) c.with_address-moved.ensures
    ∙ ap (λ (r : Rights). with_rights (with_address K4 c.args.end.word c.args.physical) r) c.rights_in-rights.ensures in
    ⊎_elim
    (λ same. planned_none refl refl refl (c.write_change.ensures.same same) (remap_same good is odd none allows (sym same ∙ written)))
    (λ other. planned_store refl refl refl (c.write_change.ensures.other other) written refl
    (remap_written good is odd none allows (λ e. other (written ∙ sym e))))
    (cases_eq c.with_rights-new.result c.args.end.word)

pub with_address-moved-requires : goal.with_address-moved-requires
with_address-moved-requires c =
    let within = ends_within c.args.physical c.args.phys_bits (sym c.ends_beyond.ensures ∙ c.if-ends_beyond.false) in
    omega (arith, within)
