use Rattle.vs_walk.proofs.ReachedNumbers.{rising_pairs}
use Rattle.vs_walk.proofs.reached.Reached.as_slice.Goals as goal

pub returns-clause-rising : goal.returns-clause-rising
returns-clause-rising c = rw (← c.self.view_is) (rising_pairs c.self.inside.numbers.items c.self.invariant)
