use Rattle.vs_plan.proofs.tables.others.has_word.Goals as goal

pub returns-clause-other : goal.returns-clause-other
returns-clause-other g c = λ is. c.loop-i.invariant.4 is
