use Rattle.nr_trace.proofs.LawsOfSpelling.{one_trace}
use Rattle.nr_trace.proofs.laws.bytes_spell_one_trace.Goals as goal

pub returns : goal.returns
returns c = one_trace
