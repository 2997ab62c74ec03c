use Rattle.nr_ring.proofs.Histories.{beginning_is}
use Rattle.nr_ring.proofs.laws.beginnings_are_histories.Goals as goal

pub returns : goal.returns
returns c = beginning_is
