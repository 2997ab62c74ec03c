use Rattle.nr_trace.proofs.LawsOfBytes.{segment_or_fault}
use Rattle.nr_trace.proofs.laws.bytes_begin_with_a_segment_or_have_a_fault.Goals as goal

pub returns : goal.returns
returns c = segment_or_fault
