use Rattle.vs_walk.proofs.ReachedNumbers.{new_iff, added_just}
use Rattle.vs_walk.proofs.reached.Marks.add.Goals as goal

pub returns-clause-new : goal.returns-clause-new
returns-clause-new c = rw (← c.self.view_is) (new_iff c.self.inside.numbers c.args.number c.in_ok-insert.field-0 c.in_ok-insert.ensures.added)

pub returns-clause-added : goal.returns-clause-added
returns-clause-added c = rw (← c.self.view_is) (added_just c.self.inside.numbers c.insert.new.self c.args.number c.in_ok-insert.ensures.updates)
