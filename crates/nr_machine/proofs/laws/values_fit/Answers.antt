use Rattle.nr_machine.proofs.Fitting.{all_fit}
use Rattle.nr_machine.proofs.laws.values_fit.Goals as goal

pub returns : goal.returns
returns c = all_fit
