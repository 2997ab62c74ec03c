use Rattle.nr_node.proofs.LaterLogs.{same_answer, same_entry, same_space}
use Rattle.nr_node.proofs.laws.later_logs_say_the_same.Goals as goal

pub returns-clause-entry : goal.returns-clause-entry
returns-clause-entry c = same_entry

pub returns-clause-space : goal.returns-clause-space
returns-clause-space c = same_space

pub returns-clause-answer : goal.returns-clause-answer
returns-clause-answer c = same_answer
