use Rattle.nr_trace.proofs.LawsOfLength.{no_longer}
use Rattle.nr_trace.proofs.laws.no_longer_trace.Goals as goal

pub returns : goal.returns
returns c = no_longer
