use Rattle.nr_trace.proofs.ExamplesOfDumps as dumps
use Rattle.nr_trace.proofs.examples.nothing_recorded_is_faultless.Goals as goal

pub returns-clause-faultless : goal.returns-clause-faultless
returns-clause-faultless c = dumps.faultless

pub returns-clause-fits : goal.returns-clause-fits
returns-clause-fits c = dumps.fits
