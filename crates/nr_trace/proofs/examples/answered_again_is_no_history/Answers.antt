use Rattle.nr_trace.proofs.ExamplesOfFaults.{again, no_history}
use Rattle.nr_trace.proofs.ExamplesOfOrders.{legal_again}
use Rattle.nr_trace.proofs.ExamplesOfRanges.{spelled_again}
use Rattle.nr_trace.proofs.examples.answered_again_is_no_history.Goals as goal

pub returns-clause-legal : goal.returns-clause-legal
returns-clause-legal c = legal_again

pub returns-clause-history : goal.returns-clause-history
returns-clause-history c = no_history

pub returns-clause-fault : goal.returns-clause-fault
returns-clause-fault c = again

pub returns-clause-spelled : goal.returns-clause-spelled
returns-clause-spelled c = spelled_again
