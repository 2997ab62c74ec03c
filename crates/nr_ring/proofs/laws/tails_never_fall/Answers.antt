use Rattle.nr_ring.proofs.Histories.{events_go_on}
use Rattle.nr_ring.proofs.laws.tails_never_fall.Goals as goal

pub returns : goal.returns
returns c = events_go_on
