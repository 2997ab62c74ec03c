use Rattle.nr_ring.proofs.Histories.{history_fits}
use Rattle.nr_ring.proofs.laws.needed_entries_fit_the_ring.Goals as goal

pub returns : goal.returns
returns c = history_fits
