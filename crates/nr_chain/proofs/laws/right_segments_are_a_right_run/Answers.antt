use Rattle.nr_chain.proofs.Chains.{right_run}
use Rattle.nr_chain.proofs.laws.right_segments_are_a_right_run.Goals as goal

pub returns : goal.returns
returns c = right_run
