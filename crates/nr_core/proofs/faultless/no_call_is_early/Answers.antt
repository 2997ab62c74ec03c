use Rattle.nr_trace.specs.declared.refusals.fault.Fault.TheVariants.{Early}
use Rattle.nr_core.proofs.reached.NoFault.{none_of_steps}
use Rattle.nr_core.proofs.faultless.no_call_is_early.Goals as goal

pub returns : goal.returns
returns c = λ trace call is. none_of_steps trace is (Early call)
