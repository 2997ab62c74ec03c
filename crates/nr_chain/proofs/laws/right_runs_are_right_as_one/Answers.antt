use Rattle.nr_chain.proofs.Meeting.{right_runs}
use Rattle.nr_chain.proofs.laws.right_runs_are_right_as_one.Goals as goal

pub returns : goal.returns
returns c = right_runs
