use Rattle.nr_touch.specs.inside.Changes.{ended_at}
use Rattle.nr_touch.proofs.Sizes.{past_of_sizes}
use Rattle.nr_touch.proofs.changes.history.History.first_allowed.Goals as goal

pub returns-clause-past : goal.returns-clause-past
returns-clause-past c =
    past_of_sizes c.args.self.now.changes.items c.requires.numbered c.args.address (ended_at c.args.finds) c.args.event _ _ _ _ _
    (rw c.number_at.ensures at c.flushed_of-small.ensures) (rw c.number_at-2.ensures at c.flushed_of-large.ensures)
    (rw c.number_at-3.ensures at c.flushed_of-huge.ensures) c.max.ensures c.max-2.ensures
