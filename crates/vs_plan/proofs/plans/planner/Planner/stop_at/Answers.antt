use Rattle.vs_plan.proofs.plans.planner.Planner.stop_at.Goals as goal

pub returns-then-is_alone-clause-untouched : goal.returns-then-is_alone-clause-untouched
returns-then-is_alone-clause-untouched g c = λ other.
    let is = c.unlinks.ensures.only c.if-not-unlinks.false in
    absurd (other is.0 is.1)

pub returns-clause-untouched : goal.returns-clause-untouched
returns-clause-untouched g c = λ other.
    let is = c.unlinks.ensures.only c.if-not-unlinks.false in
    absurd (other is.0 is.1)
