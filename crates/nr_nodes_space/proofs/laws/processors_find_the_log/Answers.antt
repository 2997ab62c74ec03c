use Rattle.nr_nodes_space.proofs.Carried.{finds_between, finds_meanwhile}
use Rattle.nr_nodes_space.proofs.laws.processors_find_the_log.Goals as goal

pub returns-clause-between : goal.returns-clause-between
returns-clause-between c = finds_between

pub returns-clause-meanwhile : goal.returns-clause-meanwhile
returns-clause-meanwhile c = finds_meanwhile
