use Rattle.nr_chain.proofs.Faultless.{right_all}
use Rattle.nr_chain.proofs.laws.faultless_segments_are_right.Goals as goal

pub returns : goal.returns
returns c = right_all
