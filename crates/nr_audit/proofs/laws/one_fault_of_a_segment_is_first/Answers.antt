use Rattle.nr_audit.proofs.FirstFaults.{one_first_after}
use Rattle.nr_audit.proofs.laws.one_fault_of_a_segment_is_first.Goals as goal

pub returns : goal.returns
returns c = one_first_after
