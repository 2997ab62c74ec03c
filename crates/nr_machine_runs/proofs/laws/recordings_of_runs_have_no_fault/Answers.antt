use Rattle.nr_machine_runs.proofs.Faultless.{fits_of_runs, legal_of_runs, none_of_runs}
use Rattle.nr_machine_runs.proofs.laws.recordings_of_runs_have_no_fault.Goals as goal

pub returns-clause-faultless : goal.returns-clause-faultless
returns-clause-faultless c = none_of_runs

pub returns-clause-legal : goal.returns-clause-legal
returns-clause-legal c = legal_of_runs

pub returns-clause-fits : goal.returns-clause-fits
returns-clause-fits c = fits_of_runs
