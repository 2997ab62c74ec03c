use Rattle.std.proofs.Common.{[], ◌∷◌, ◌++◌}
use Rattle.vs_plan.specs.Planner.{HasGiven, frames_given}
use Rattle.vs_range.specs.declared.planner.RangePlanner.{RangePlanner}
use Rattle.vs_range.specs.Planner.{HasGivenFor}
use Rattle.vs_range.proofs.Seeing.{some_given}
use Rattle.vs_range.proofs.planner.RangePlanner.give.Goals as goal

pub returns-clause-given : goal.returns-clause-given
returns-clause-given c =
    let range : RangePlanner = record {
      planner = c.give-step.new.self;
      base = c.args.self.now.base;
      bytes = c.args.self.now.bytes;
      alone = c.args.self.now.alone;
    } in
    some_given c.args.frame
    (λ number. HasGiven c.give-step.new.self (frames_given c.args.self.now.planner ++ number ∷ []) c.give-step.result)
    (λ number. HasGivenFor range (frames_given c.args.self.now.planner ++ number ∷ []) c.step_of.result)
    (λ number. c.step_of.ensures.given (frames_given c.args.self.now.planner ++ number ∷ [])) c.give-step.ensures.given
