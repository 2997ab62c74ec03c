use Rattle.nr_machine.proofs.Ending.{done_stays, everywhere_applied, everywhere_on}
use Rattle.nr_machine.proofs.laws.everywhere_stays.Goals as goal

pub returns-clause-stays : goal.returns-clause-stays
returns-clause-stays c = everywhere_on

pub returns-clause-applied : goal.returns-clause-applied
returns-clause-applied c = everywhere_applied

pub returns-clause-grows : goal.returns-clause-grows
returns-clause-grows c = done_stays
