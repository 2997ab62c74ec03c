use Rattle.nr_ring.proofs.OwnTails.{look_keeps}
use Rattle.nr_ring.proofs.laws.looks_keep_local_tails.Goals as goal

pub returns : goal.returns
returns c = look_keeps
