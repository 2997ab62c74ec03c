use Rattle.nr_touch.specs.inside.Columns.{Covers}
use Rattle.nr_touch.proofs.Sizes.{next_of_sizes, next_covers, next_numbered}
use Rattle.nr_touch.proofs.changes.history.History.next.Goals as goal

pub returns-clause-next : goal.returns-clause-next
returns-clause-next c =
    next_of_sizes c.args.self.now.changes.items c.requires.numbered c.args.address c.args.place _ _ _ _ _
    (rw c.number_at.ensures at c.next_of-small.ensures) (rw c.number_at-2.ensures at c.next_of-large.ensures)
    (rw c.number_at-3.ensures at c.next_of-huge.ensures) c.earlier.ensures c.earlier-2.ensures

pub returns-clause-numbered : goal.returns-clause-numbered
returns-clause-numbered c =
    next_numbered c.args.self.now.changes.items c.requires.numbered c.args.address (Covers c.args.address) c.args.place c.earlier-2.result
    (returns-clause-next c)

pub returns-clause-covers : goal.returns-clause-covers
returns-clause-covers c =
    next_covers c.args.self.now.changes.items c.requires.numbered c.args.address c.args.place c.earlier-2.result (returns-clause-next c)
