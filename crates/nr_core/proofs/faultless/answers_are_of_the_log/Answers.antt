use Rattle.nr_trace.specs.declared.refusals.fault.Fault.TheVariants.{WrongAnswer}
use Rattle.nr_core.proofs.reached.NoFault.{none_of_steps}
use Rattle.nr_core.proofs.faultless.answers_are_of_the_log.Goals as goal

pub returns : goal.returns
returns c = λ trace call is. none_of_steps trace is (WrongAnswer call)
