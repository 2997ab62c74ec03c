use Rattle.nr_trace.proofs.LawsOfFronts.{front_is_truncated}
use Rattle.nr_trace.proofs.laws.fronts_of_a_spelling_are_truncated.Goals as goal

pub returns : goal.returns
returns c = front_is_truncated
