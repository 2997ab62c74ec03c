use Rattle.std.proofs.Common.{sym, ◌∙◌}
use Rattle.nrvs_plan_c.proofs.Keeping.{front_back, parts_back, target_kept}
use Rattle.nrvs_plan_c.proofs.records.kept.keep.Goals as goal

pub returns-clause-kept : goal.returns-clause-kept
returns-clause-kept c =
    parts_back c.args.planner.now _ _ _ _ _ (target_kept c.args.plan.now.call _ c.code_of-plan.ensures.some ∙ sym c.requires.target) (sym c.requires.request)
    c.code_of-plan.ensures.is
    c.allowed_of-plan.ensures
    (front_back _ _ _ _ (c.copy_from_slice.ensures.after ∙ c.as_slice.ensures.value) c.len-count.ensures.value)
