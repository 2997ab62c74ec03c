use Rattle.nr_machine.proofs.Ending.{completed_stays}
use Rattle.nr_machine.proofs.laws.completed_never_falls.Goals as goal

pub returns : goal.returns
returns c = completed_stays
