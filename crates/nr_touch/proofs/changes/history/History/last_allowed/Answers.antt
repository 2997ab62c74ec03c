use Rattle.nr_touch.proofs.Sizes.{ahead_of_sizes}
use Rattle.nr_touch.proofs.changes.history.History.last_allowed.Goals as goal

pub returns : goal.returns
returns c =
    ahead_of_sizes c.args.self.now.changes.items c.requires.numbered c.args.address c.args.event c.args.most _ _ _ _ _
    (rw c.number_at.ensures at c.foreseen_of-small.ensures) (rw c.number_at-2.ensures at c.foreseen_of-large.ensures)
    (rw c.number_at-3.ensures at c.foreseen_of-huge.ensures) c.min.ensures c.min-2.ensures
