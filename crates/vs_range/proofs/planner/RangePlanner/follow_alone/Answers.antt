use Rattle.std.proofs.Common.{[], refl, sym, ap, subst, ◌∙◌}
use Rattle.vs_types.specs.Entry.{meaning}
use Rattle.vs_range.specs.declared.planner.RangePlanner.{RangePlanner}
use Rattle.vs_range.specs.Planner.{IsRangeNext, as_range}
use Rattle.vs_range.proofs.Seeing.{range_next, descended}
use Rattle.vs_range.proofs.planner.RangePlanner.follow_alone.Goals as goal

pub returns-clause-next : goal.returns-clause-next
returns-clause-next g c = λ memory shown got.
    let range : RangePlanner = record {
      planner = c.follow-step.new.self;
      base = c.args.self.now.base;
      bytes = c.args.self.now.bytes;
      alone = c.args.self.now.alone;
    } in
    subst (IsRangeNext memory range []) (sym c.step_of.ensures.is)
    (range_next memory range [] c.follow-step.result
    (c.follow-step.ensures.next memory (descended c.args.self.now.planner c.requires.entry.phase shown) got))

pub returns-clause-leads : goal.returns-clause-leads
returns-clause-leads g c = λ next own phase low link within.
    let on = c.follow-step.ensures.leads next own low (ap (meaning c.args.self.now.planner.level) c.requires.entry.read ∙ link) within in
    (c.step_of.ensures.is ∙ ap as_range on.0, on.1, on.2, refl)
