use Rattle.nr_audit.proofs.histories.met.met_if.Goals as goal

pub returns-in_ok-met-in-Some-clause-met : goal.returns-in_ok-met-in-Some-clause-met
returns-in_ok-met-in-Some-clause-met c = λ before start are excused near.
    c.in_ok-met-in-Some.ensures before start are excused (rw c.in-Some.is at near)
