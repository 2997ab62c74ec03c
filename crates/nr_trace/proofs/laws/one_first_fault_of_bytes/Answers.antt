use Rattle.nr_trace.proofs.LawsOfFaults.{one_first_of}
use Rattle.nr_trace.proofs.laws.one_first_fault_of_bytes.Goals as goal

pub returns : goal.returns
returns c = one_first_of
