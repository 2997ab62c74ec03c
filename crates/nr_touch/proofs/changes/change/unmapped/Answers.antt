use Rattle.nr_touch.proofs.changes.change.unmapped.Goals as goal

pub returns-in-Removed-clause-none : goal.returns-in-Removed-clause-none
returns-in-Removed-clause-none c = λ none. absurd (none
    (record { base = c.args.base; size = c.in-Removed.size; rights = c.in-Removed.rights; phys = c.in-Removed.phys }) c.in-Removed.is)
