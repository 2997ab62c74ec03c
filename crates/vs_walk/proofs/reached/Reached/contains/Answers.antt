use Rattle.vs_walk.proofs.ReachedNumbers.{searched_iff}
use Rattle.vs_walk.proofs.reached.Reached.contains.Goals as goal

pub returns : goal.returns
returns c = rw (← c.self.view_is) (rw c.is_ok.ensures.value
    (searched_iff c.self.inside.numbers.items c.args.number c.binary_search.result
    (rw c.deref.ensures.value at c.binary_search.ensures.position) c.self.invariant))
