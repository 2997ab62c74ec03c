use Rattle.std.proofs.Common.{◌+◌, ◌^◌, sym, ap, subst, ◌∙◌, ltb-false}
use Rattle.vs_plan.specs.Request.{address_of}
use Rattle.vs_range.specs.Planner.{IsRanged}
use Rattle.nrvs_plan_c.proofs.RangesBegun.{begun_as}
use Rattle.nrvs_plan_c.proofs.records.range.nrvs_plan_protect_range.Goals as goal

pub begin_range-requires-clause-base : goal.begin_range-requires-clause-base
begin_range-requires-clause-base c = ap address_of (c.nrvs_plan_protect-begun.ensures.request c.if-begun-ne-SEE.false)

pub begin_range-requires-clause-kind : goal.begin_range-requires-clause-kind
begin_range-requires-clause-kind c = subst IsRanged (sym (c.nrvs_plan_protect-begun.ensures.request c.if-begun-ne-SEE.false)) tt

pub begin_range-requires-clause-ends : goal.begin_range-requires-clause-ends
begin_range-requires-clause-ends c = ltb-false (2 ^ 64) (c.args.base + c.args.bytes) (sym c.ends_late.ensures ∙ c.if-ends_late.false)

pub returns-clause-begun : goal.returns-clause-begun
returns-clause-begun c = λ is. begun_as (c.nrvs_plan_protect-begun.ensures.target is) (c.nrvs_plan_protect-begun.ensures.request is) c.begin_range.ensures.begun
