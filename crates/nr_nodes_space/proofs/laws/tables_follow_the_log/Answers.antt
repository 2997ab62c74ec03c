use Rattle.nr_nodes_space.proofs.Carried.{current, translates}
use Rattle.nr_nodes_space.proofs.laws.tables_follow_the_log.Goals as goal

pub returns-clause-translates : goal.returns-clause-translates
returns-clause-translates c = translates

pub returns-clause-up_to_date : goal.returns-clause-up_to_date
returns-clause-up_to_date c = current
