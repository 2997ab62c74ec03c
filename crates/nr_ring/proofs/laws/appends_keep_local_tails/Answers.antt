use Rattle.nr_ring.proofs.OwnTails.{append_keeps}
use Rattle.nr_ring.proofs.laws.appends_keep_local_tails.Goals as goal

pub returns : goal.returns
returns c = append_keeps
