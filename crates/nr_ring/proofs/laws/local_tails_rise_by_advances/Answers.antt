use Rattle.nr_ring.proofs.Histories.{local_since}
use Rattle.nr_ring.proofs.laws.local_tails_rise_by_advances.Goals as goal

pub returns : goal.returns
returns c = local_since
