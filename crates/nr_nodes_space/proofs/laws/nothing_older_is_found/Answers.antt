use Rattle.nr_nodes_space.proofs.Carried.{none_older, none_older_meanwhile}
use Rattle.nr_nodes_space.proofs.laws.nothing_older_is_found.Goals as goal

pub returns-clause-between : goal.returns-clause-between
returns-clause-between c = none_older

pub returns-clause-meanwhile : goal.returns-clause-meanwhile
returns-clause-meanwhile c = none_older_meanwhile
