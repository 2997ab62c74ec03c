use Rattle.nr_machine_runs.proofs.Histories.{is_history, is_log}
use Rattle.nr_machine_runs.proofs.laws.schedules_are_histories.Goals as goal

pub returns-clause-history : goal.returns-clause-history
returns-clause-history c = is_history

pub returns-clause-log : goal.returns-clause-log
returns-clause-log c = is_log
