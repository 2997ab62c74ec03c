use Rattle.nr_machine.proofs.Ending.{all_precede}
use Rattle.nr_machine.proofs.laws.calls_keep_precedence.Goals as goal

pub returns : goal.returns
returns c = all_precede
