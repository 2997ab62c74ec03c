use Rattle.nr_nodes_space.proofs.Carried.{answers_next}
use Rattle.nr_nodes_space.proofs.laws.plans_answer_as_the_log.Goals as goal

pub returns : goal.returns
returns c = answers_next
