use Rattle.nr_trace.proofs.LawsOfDumps.{legal_if_faultless, fits_if_faultless}
use Rattle.nr_trace.proofs.LawsOfHistories.{history_if_faultless}
use Rattle.nr_trace.proofs.laws.faultless_recordings_have_an_order.Goals as goal

pub returns-clause-history : goal.returns-clause-history
returns-clause-history c = λ start trace faultless. history_if_faultless start trace faultless

pub returns-clause-legal : goal.returns-clause-legal
returns-clause-legal c = λ start trace faultless. legal_if_faultless start trace faultless

pub returns-clause-fits : goal.returns-clause-fits
returns-clause-fits c = λ start trace replica dump faultless is there. fits_if_faultless start trace replica dump faultless is there
