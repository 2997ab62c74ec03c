use Rattle.nr_nodes_space.proofs.Done.{works_done}
use Rattle.nr_nodes_space.proofs.laws.works_can_be_done.Goals as goal

pub returns : goal.returns
returns c = works_done
