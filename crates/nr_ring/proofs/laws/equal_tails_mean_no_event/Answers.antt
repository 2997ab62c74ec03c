use Rattle.nr_ring.proofs.Histories.{no_event}
use Rattle.nr_ring.proofs.laws.equal_tails_mean_no_event.Goals as goal

pub returns : goal.returns
returns c = no_event
