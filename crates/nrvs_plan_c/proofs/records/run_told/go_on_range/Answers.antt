use Rattle.std.proofs.Common.{refl, sym, ap, subst, ◌∙◌, arith}
use Rattle.vs_plan.specs.declared.plans.planner.Phase.TheVariants.{Ended}
use Rattle.vs_range.specs.declared.planner.RangePlanner.{RangePlanner}
use Rattle.vs_range.specs.declared.planner.RangeStep.{RangeStep}
use Rattle.vs_range.specs.Planner.{IsRangeNext}
use Rattle.nrvs_plan_c.specs.declared.records.range.Run.{Run}
use Rattle.nrvs_plan_c.specs.Kept.{planner_in, request_in, target_in}
use Rattle.nrvs_plan_c.specs.Range.{range_in}
use Rattle.nrvs_plan_c.proofs.Keeping.{ended_target, right_as}
use Rattle.nrvs_plan_c.proofs.RangesMoved.{run_as, harvest_as, absent_as, beyond_as}
use Rattle.nrvs_plan_c.proofs.RangesTaken.{own_back, range_back, told_as}
use Rattle.nrvs_plan_c.proofs.records.run_told.go_on_range.Goals as goal

pub returns-in-Planned-clause-next : goal.returns-in-Planned-clause-next
returns-in-Planned-clause-next c = λ memory offered next. record {
  sees = λ e. absurd (omega (arith, e));
  gives = λ e. absurd (omega (arith, e));
  planned = λ e. λ space premise. (
    c.in-Planned.made,
    right_as memory offered c.in-Planned.made c.args.range.now.planner.target (target_in c.write.new.plan.call) c.args.range.now.planner.request
        (request_in c.write.new.plan.call) (c.requires.target ∙ ap target_in (sym c.write.ensures.call))
        (c.requires.request ∙ ap request_in (sym c.write.ensures.call))
        (subst (λ (s : RangeStep). IsRangeNext memory c.args.range.now offered s) c.in-Planned.is next) space premise,
    c.write.ensures.says,
  );
  runs = λ e. absurd (omega (arith, e));
  harvests = λ e. absurd (omega (arith, e));
  absent = λ e. absurd (omega (arith, e));
  beyond = λ e. absurd (omega (arith, e));
}

pub returns-in-Runs-clause-next : goal.returns-in-Runs-clause-next
returns-in-Runs-clause-next c = λ memory offered next. record {
  sees = λ e. absurd (omega (arith, e));
  gives = λ e. absurd (omega (arith, e));
  planned = λ e. absurd (omega (arith, e));
  runs = λ e. (
    c.in-Runs.made,
    run_as memory c.args.range.now (range_in c.write_run.new.run)
        (c.requires.target ∙ ap target_in (sym c.write_run.ensures.kept.call)
        ∙ sym (ended_target c.write_run.new.run.plan c.write_run.ensures.ended))
        (c.requires.request ∙ ap request_in (sym c.write_run.ensures.kept.call)) (c.requires.base ∙ sym c.write_run.ensures.kept.base)
        (c.requires.bytes ∙ sym c.write_run.ensures.kept.bytes) c.in-Runs.made (sym c.write_run.ensures.level)
        (subst (λ (s : RangeStep). IsRangeNext memory c.args.range.now offered s) c.in-Runs.is next),
    c.write_run.ensures.told,
  );
  harvests = λ e. absurd (omega (arith, e));
  absent = λ e. absurd (omega (arith, e));
  beyond = λ e. absurd (omega (arith, e));
}

pub returns-in-Harvests-clause-next : goal.returns-in-Harvests-clause-next
returns-in-Harvests-clause-next c = λ memory offered next.
    let wrote = c.write_run-in-Harvests.ensures in
    record {
      sees = λ e. absurd (omega (arith, e));
      gives = λ e. absurd (omega (arith, e));
      planned = λ e. absurd (omega (arith, e));
      runs = λ e. absurd (omega (arith, e));
      harvests = λ e. (
        c.in-Harvests.made,
        harvest_as memory c.args.range.now (range_in c.write_run-in-Harvests.new.run)
            (c.requires.target ∙ ap target_in (sym wrote.kept.call) ∙ sym (ended_target c.write_run-in-Harvests.new.run.plan wrote.ended))
            (c.requires.request ∙ ap request_in (sym wrote.kept.call)) (c.requires.base ∙ sym wrote.kept.base)
            (c.requires.bytes ∙ sym wrote.kept.bytes) c.in-Harvests.made (sym wrote.level)
            (subst (λ (s : RangeStep). IsRangeNext memory c.args.range.now offered s) c.in-Harvests.is next),
        wrote.told,
      );
      absent = λ e. absurd (omega (arith, e));
      beyond = λ e. absurd (omega (arith, e));
    }

-- the range that is kept, where nothing of it has changed
abbrev kept_range : RangePlanner → Run → RangePlanner
kept_range range run = record range {
  planner = record range.planner { target = target_in run.plan.call; request = request_in run.plan.call };
  base = run.base;
  bytes = run.bytes;
}

pub returns-in-Absent-clause-next : goal.returns-in-Absent-clause-next
returns-in-Absent-clause-next c = λ memory offered next. record {
  sees = λ e. absurd (omega (arith, e));
  gives = λ e. absurd (omega (arith, e));
  planned = λ e. absurd (omega (arith, e));
  runs = λ e. absurd (omega (arith, e));
  harvests = λ e. absurd (omega (arith, e));
  absent = λ e. absent_as memory c.args.range.now (record (range_in c.args.run.now) {
    planner = record (planner_in c.args.run.now.plan) { target = target_in c.args.run.now.plan.call; phase = Ended };
  }) c.requires.target c.requires.request c.requires.base c.requires.bytes c.in-Absent.bytes
      (subst (λ (s : RangeStep). IsRangeNext memory c.args.range.now offered s) c.in-Absent.is next);
  beyond = λ e. absurd (omega (arith, e));
}

pub returns-in-Beyond-clause-next : goal.returns-in-Beyond-clause-next
returns-in-Beyond-clause-next c = λ memory offered next. record {
  sees = λ e. absurd (omega (arith, e));
  gives = λ e. absurd (omega (arith, e));
  planned = λ e. absurd (omega (arith, e));
  runs = λ e. absurd (omega (arith, e));
  harvests = λ e. absurd (omega (arith, e));
  absent = λ e. absurd (omega (arith, e));
  beyond = λ e.
      let is = beyond_as memory c.args.range.now (kept_range c.args.range.now c.args.run.now) c.requires.target c.requires.request c.requires.base
      c.requires.bytes c.in-Beyond.size (subst (λ (s : RangeStep). IsRangeNext memory c.args.range.now offered s) c.in-Beyond.is next) in
      (c.in-Beyond.size, c.from-run-in-Beyond.ensures ∙ c.code.ensures.is, is);
}

pub returns-in-See-clause-again : goal.returns-in-See-clause-again
returns-in-See-clause-again c = λ is.
    range_back c.args.range.now (planner_in c.keep.new.plan) c.args.run.now.base c.args.run.now.bytes c.from-run.result c.keep.ensures.kept
    (sym c.requires.base) (sym c.requires.bytes) (own_back c.args.range.now.alone c.from-run.result c.from-run.ensures)

pub returns-in-Beyond-clause-told : goal.returns-in-Beyond-clause-told
returns-in-Beyond-clause-told c = told_as c.args.step.now _ (record c.args.run.now {
  plan = record c.args.run.now.plan { way = record c.args.run.now.plan.way { phase = 5 } };
  size = c.from-run-in-Beyond.result;
}) 37 c.in-Beyond.is (refl, c.from-run-in-Beyond.ensures ∙ c.code.ensures.is)
