use Rattle.std.proofs.Common.{refl, ap, ◌∙◌}
use Rattle.vs_types.specs.declared.addresses.page.Size.TheVariants.{K4}
use Rattle.vs_types.specs.declared.addresses.page.Rights.{Rights}
use Rattle.vs_types.specs.Bits.{page_word}
use Rattle.nrvs_plan_c.proofs.EndsRight.{grants, lacks, map_less, map_overlaps, map_written}
use Rattle.nrvs_plan_c.proofs.EndsTold.{planned_none, planned_store}
use Rattle.nrvs_plan_c.proofs.end.end_map.Goals as goal

pub returns-then-is_page-clause-right : goal.returns-then-is_page-clause-right
returns-then-is_page-clause-right c = λ target memory good is.
    planned_none c.with-overlaps.ensures refl refl c.write_none.ensures.none
    (map_overlaps c.args.physical c.args.bits c.args.rights good is (c.is_page.ensures.page c.if-is_page.true))

pub returns-then-not-permits-clause-right : goal.returns-then-not-permits-clause-right
returns-then-not-permits-clause-right c = λ target memory good is.
    planned_none c.with-narrow.ensures refl refl c.write_none-then-not-permits.ensures.none
    (map_less c.args.physical c.args.bits c.args.rights good is (c.is_page.ensures.none c.if-is_page.false)
    (lacks c.rights_at-above.ensures c.rights_in-rights.ensures (c.permits.ensures.less c.if-not-permits.true)))

pub returns-clause-right : goal.returns-clause-right
returns-clause-right c = λ target memory good is.
    planned_store c.with-done.ensures refl refl c.write_store.ensures.store
    (c.page_word.ensures.written
    ∙ ap (λ (r : Rights). page_word (record { base = c.args.base; size = K4; rights = r; phys = c.args.physical }) c.args.bits)
    c.rights_in-rights.ensures) refl
    (map_written c.args.physical c.args.bits c.args.rights good is (c.is_page.ensures.none c.if-is_page.false)
    (grants c.rights_at-above.ensures c.rights_in-rights.ensures (c.permits.ensures.all c.if-not-permits.false)))
