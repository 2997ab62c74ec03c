use Rattle.std.proofs.Common.{ℕ, List, [], sym, subst}
use Rattle.vs_range.specs.declared.planner.RangePlanner.{RangePlanner}
use Rattle.vs_range.specs.Planner.{FollowsLink, IsRangeNext, TakesPage}
use Rattle.vs_range.proofs.Seeing.{range_next}
use Rattle.vs_range.proofs.planner.RangePlanner.see.Goals as goal

pub returns-then-ne-clause-next : goal.returns-then-ne-clause-next
returns-then-ne-clause-next g c = λ memory shown got.
    let range : RangePlanner = record {
      planner = c.see-step.new.self;
      base = c.args.self.now.base;
      bytes = c.args.self.now.bytes;
      alone = c.args.self.now.alone;
    } in
    subst (IsRangeNext memory range []) (sym c.step_of.ensures.is) (range_next memory range [] c.see-step.result (c.see-step.ensures.next memory shown got))

pub returns-clause-taken : goal.returns-clause-taken
returns-clause-taken g c =
    subst (λ (ws : List ℕ). TakesPage c.args.self.now ws c.follow.result) c.read-word.ensures.same c.follow.ensures.taken

pub returns-clause-leads : goal.returns-clause-leads
returns-clause-leads g c =
    subst (λ (ws : List ℕ). FollowsLink c.args.self.now ws c.follow.new.self c.follow.result) c.read-word.ensures.same c.follow.ensures.leads
