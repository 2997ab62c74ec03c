use Rattle.nr_machine.proofs.Run.{all_ends, all_follow, all_right, same_world}
use Rattle.nr_machine.proofs.laws.states_follow_the_log.Goals as goal

pub returns-clause-world : goal.returns-clause-world
returns-clause-world c start = same_world

pub returns-clause-states : goal.returns-clause-states
returns-clause-states c start = all_follow

pub returns-clause-replies : goal.returns-clause-replies
returns-clause-replies c start = all_right

pub returns-clause-ends : goal.returns-clause-ends
returns-clause-ends c start = all_ends
