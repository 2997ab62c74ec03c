use Rattle.std.proofs.Common.{refl}
use Rattle.nr_audit.proofs.PartsOfVerdicts.{yes_of}
use Rattle.nr_core.proofs.reached.NoFault.{none_of_steps}
use Rattle.core_tests.proofs.laws.steps_are_judged_yes.Goals as goal

pub returns-clause-yes : goal.returns-clause-yes
returns-clause-yes c = λ trace bytes is spells. (trace, spells, none_of_steps trace is, refl)

pub returns-clause-no_other : goal.returns-clause-no_other
returns-clause-no_other c = λ trace bytes verdict is spells says. yes_of bytes trace verdict says spells (none_of_steps trace is)
