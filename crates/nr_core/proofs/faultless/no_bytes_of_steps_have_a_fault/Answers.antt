use Rattle.nr_core.proofs.reached.NoFault.{none_of_bytes}
use Rattle.nr_core.proofs.faultless.no_bytes_of_steps_have_a_fault.Goals as goal

pub returns : goal.returns
returns c = none_of_bytes
