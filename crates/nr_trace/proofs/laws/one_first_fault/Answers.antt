use Rattle.nr_trace.proofs.LawsOfFaults.{one_first}
use Rattle.nr_trace.proofs.laws.one_first_fault.Goals as goal

pub returns : goal.returns
returns c = one_first
