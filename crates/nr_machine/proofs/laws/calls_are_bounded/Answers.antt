use Rattle.nr_machine.proofs.Spending.{spent_in_all}
use Rattle.nr_machine.proofs.laws.calls_are_bounded.Goals as goal

pub returns : goal.returns
returns c = spent_in_all
