use Rattle.nr_trace.proofs.LawsOfBytes.{spelled_or_fault}
use Rattle.nr_trace.proofs.laws.bytes_spell_a_trace_or_have_a_fault.Goals as goal

pub returns : goal.returns
returns c = spelled_or_fault
