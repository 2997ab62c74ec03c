use Rattle.nr_trace.proofs.LawsOfFaults.{ordered}
use Rattle.nr_trace.proofs.laws.faults_are_ordered.Goals as goal

pub returns : goal.returns
returns c = ordered
