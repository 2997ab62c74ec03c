use Rattle.vs_types.specs.Space.{no_pages}
use Rattle.nr_trace.proofs.LawsOfDumps.{legal_if_faultless, fits_if_faultless}
use Rattle.nr_core.proofs.reached.Dumps.{the_replica}
use Rattle.nr_core.proofs.reached.NoFault.{none_of_steps}
use Rattle.nr_core.proofs.faultless.no_list_of_steps_makes_a_fault.Goals as goal

pub returns-clause-faultless : goal.returns-clause-faultless
returns-clause-faultless c = none_of_steps

pub returns-clause-legal : goal.returns-clause-legal
returns-clause-legal c = λ trace is. legal_if_faultless no_pages trace (none_of_steps trace is)

pub returns-clause-fits : goal.returns-clause-fits
returns-clause-fits c = λ trace r dump is at.
    let replica = the_replica is.0 trace.dumps r dump is.2.dumps at in
    fits_if_faultless no_pages trace r dump (none_of_steps trace is) at replica.2.there
