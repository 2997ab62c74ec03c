use Rattle.nr_trace.proofs.LawsOfFormat.{no_fault_of_segment}
use Rattle.nr_trace.proofs.laws.no_fault_of_a_segment.Goals as goal

pub returns : goal.returns
returns c = no_fault_of_segment
