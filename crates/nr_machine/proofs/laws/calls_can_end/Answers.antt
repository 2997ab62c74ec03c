use Rattle.nr_machine.proofs.Example.{example_plays}
use Rattle.nr_machine.proofs.laws.calls_can_end.Goals as goal

pub returns-clause-plays : goal.returns-clause-plays
returns-clause-plays c = example_plays
