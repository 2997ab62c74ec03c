use Rattle.nr_core.proofs.reached.Noted.{answers_alike, taken_by_steps}
use Rattle.nr_core.proofs.laws.noted_answers_are_of_taken_updates.Goals as goal

pub returns-clause-taken : goal.returns-clause-taken
returns-clause-taken c = taken_by_steps

pub returns-clause-same_step : goal.returns-clause-same_step
returns-clause-same_step c = answers_alike
