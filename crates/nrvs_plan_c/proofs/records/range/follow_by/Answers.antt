use Rattle.std.proofs.Common.{[], ◌<◌, sym, ap, subst, ◌∙◌, arith, rules}
use Rattle.std.specs.FinMap as finite
use Rattle.vs_plan.specs.Shown.{IsShown}
use Rattle.vs_range.specs.declared.planner.RangePlanner.{RangePlanner}
use Rattle.vs_range.specs.Planner.{range_sees, range_sees_left}
use Rattle.nrvs_plan_c.specs.Range.{range_sees_in}
use Rattle.nrvs_plan_c.proofs.Keeping.{target_kept}
use Rattle.nrvs_plan_c.proofs.RangesTaken.{leads_of, taken_of}
use Rattle.nrvs_plan_c.proofs.records.range.follow_by.Goals as goal

pub returns-clause-step : goal.returns-clause-step
returns-clause-step g c = record {
  asked = search rules;
  status = search rules;
  sound = search rules;
  kept = search rules;
  fewer = λ is. subst (λ n. n < range_sees_in c.args.run.now) (sym (c.go_on_range.ensures.fewer is))
      (subst (λ (r : RangePlanner). range_sees_left c.follow-step.new.self c.follow-step.result < range_sees r) c.requires.range
      c.follow-step.ensures.fewer);
  given = λ is. c.go_on_range.ensures.given [] is c.follow-step.ensures.given;
}

pub returns-clause-next : goal.returns-clause-next
returns-clause-next g c = λ memory shown there.
    c.go_on_range.ensures.next memory []
    (c.follow-step.ensures.next memory (subst (λ (r : RangePlanner). IsShown memory r.planner) (sym c.requires.range) shown)
    (ap (λ (r : RangePlanner). finite.get memory r.planner.number) c.requires.range ∙ there))

pub returns-clause-taken : goal.returns-clause-taken
returns-clause-taken g c =
    taken_of c.args.run.now (g.W.FrameWords.words c.args.words.now) c.args.range.now c.follow-step.result c.go_on_range.new.run c.go_on_range.result
    c.requires.range c.follow-step.ensures.taken c.go_on_range.ensures.told

pub returns-clause-leads : goal.returns-clause-leads
returns-clause-leads g c =
    leads_of c.args.run.now (g.W.FrameWords.words c.args.words.now) c.args.range.now c.follow-step.new.self c.follow-step.result c.go_on_range.new.run
    c.go_on_range.result c.requires.range c.follow-step.ensures.leads c.go_on_range.ensures.told c.go_on_range.ensures.again
    (target_kept c.args.run.now.plan.call c.args.run.now.plan.way.phase (omega (arith, c.requires.descent)))
