use Rattle.nr_machine.proofs.Ending.{all_stand, all_written}
use Rattle.nr_machine.proofs.laws.nodes_share_one_log.Goals as goal

pub returns-clause-order : goal.returns-clause-order
returns-clause-order c = all_stand

pub returns-clause-written : goal.returns-clause-written
returns-clause-written c = all_written
