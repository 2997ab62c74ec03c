use Rattle.std.proofs.Common.{refl}
use Rattle.nrvs_plan_c.specs.declared.records.told.Reply.{Reply}
use Rattle.nrvs_plan_c.proofs.EndsRight.{unmap_absent, unmap_page}
use Rattle.nrvs_plan_c.proofs.EndsTold.{planned_none, planned_store}
use Rattle.nrvs_plan_c.proofs.end.end_unmap.Goals as goal

pub returns-then-not-is_page-clause-right : goal.returns-then-not-is_page-clause-right
returns-then-not-is_page-clause-right c = λ target memory good is stays.
    planned_none c.with-absent.ensures refl refl c.write_none.ensures.none (unmap_absent good is (c.is_page.ensures.none c.if-not-is_page.true))

pub returns-clause-right : goal.returns-clause-right
returns-clause-right c = λ target memory good is stays.
    let odd = c.is_page.ensures.page c.if-not-is_page.false in
    planned_store
    (λ i. let r : Reply = record { code = 3; size = 0; rights = c.code.ensures i; number = c.physical.ensures i } in r)
    c.bits_in-bits.ensures.is refl c.write_store.ensures.store refl refl (unmap_page good is odd (stays odd))
