use Rattle.std.proofs.Common.{sym, ap, subst, ◌∙◌, arith}
use Rattle.vs_plan.specs.declared.plans.plan.Step.{Step}
use Rattle.vs_plan.specs.declared.plans.planner.Phase.{Phase}
use Rattle.vs_plan.specs.Shown.{IsNext}
use Rattle.nrvs_plan_c.specs.declared.records.kept.Way.{Way}
use Rattle.nrvs_plan_c.specs.Kept.{IsWaiting, phase_in, planner_in, request_in, target_in}
use Rattle.nrvs_plan_c.proofs.Keeping.{right_as}
use Rattle.nrvs_plan_c.proofs.next.go_on.Goals as goal

pub returns-in-Planned-clause-sound : goal.returns-in-Planned-clause-sound
returns-in-Planned-clause-sound c = record {
  room = c.write.ensures.room;
  waits = subst (λ (phase : Phase). IsWaiting phase (planner_in c.write.new.plan))
      (sym (ap (λ (way : Way). phase_in way.phase) c.write.ensures.way)) tt;
}

pub returns-in-Planned-clause-next : goal.returns-in-Planned-clause-next
returns-in-Planned-clause-next c = λ memory offered next. record {
  sees = λ e. absurd (omega (arith, e));
  gives = λ e. absurd (omega (arith, e));
  planned = λ e. λ space premise. (
    c.in-Planned.made,
    right_as memory offered c.in-Planned.made c.args.planner.now.target (target_in c.write.new.plan.call) c.args.planner.now.request
        (request_in c.write.new.plan.call) (c.requires.target ∙ ap target_in (sym c.write.ensures.call))
        (c.requires.request ∙ ap request_in (sym c.write.ensures.call))
        (subst (λ (s : Step). IsNext memory c.args.planner.now offered s) c.in-Planned.is next) space premise,
    c.write.ensures.says,
  );
}
