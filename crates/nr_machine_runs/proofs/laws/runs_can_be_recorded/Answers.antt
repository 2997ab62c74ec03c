use Rattle.nr_machine_runs.proofs.Example.{example_may}
use Rattle.nr_machine_runs.proofs.laws.runs_can_be_recorded.Goals as goal

pub returns-clause-plays : goal.returns-clause-plays
returns-clause-plays c = example_may
