use Rattle.nr_core.proofs.reached.NoFault.{well_formed_of_steps}
use Rattle.nr_core.proofs.faultless.recorded_calls_are_well_formed.Goals as goal

pub returns : goal.returns
returns c = well_formed_of_steps
