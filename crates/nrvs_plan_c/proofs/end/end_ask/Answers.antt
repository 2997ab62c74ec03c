use Rattle.std.proofs.Common.{refl, ◌+◌, ◌%◌}
use Rattle.nrvs_plan_c.specs.declared.records.told.Reply.{Reply}
use Rattle.nrvs_plan_c.proofs.EndsRight.{ask_absent, ask_page}
use Rattle.nrvs_plan_c.proofs.EndsTold.{planned_none}
use Rattle.nrvs_plan_c.proofs.end.end_ask.Goals as goal

pub returns-then-not-is_page-clause-right : goal.returns-then-not-is_page-clause-right
returns-then-not-is_page-clause-right c = λ target memory good is.
    planned_none c.with-absent.ensures refl refl c.write_none.ensures.none (ask_absent good is (c.is_page.ensures.none c.if-not-is_page.true))

pub returns-clause-right : goal.returns-clause-right
returns-clause-right c = λ target memory good is.
    planned_none
    (λ i. let r : Reply = record { code = 7; size = 0; rights = c.code.ensures i; number = c.physical.ensures i + c.args.address % 4096 } in r)
    c.bits_in-bits.ensures.is refl c.write_none-2.ensures.none (ask_page good is (c.is_page.ensures.page c.if-not-is_page.false))
