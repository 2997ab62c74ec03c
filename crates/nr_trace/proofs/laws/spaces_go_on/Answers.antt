use Rattle.nr_trace.proofs.Orderly.{space_of_both}
use Rattle.nr_trace.proofs.laws.spaces_go_on.Goals as goal

pub returns : goal.returns
returns c = space_of_both
