use Rattle.chain_cuts.proofs.CutWhole.{cut}
use Rattle.chain_cuts.proofs.laws.a_cut_makes_no_difference.Goals as goal

pub returns : goal.returns
returns c = cut
