use Rattle.nr_ring.proofs.Histories.{beginning_goes_on}
use Rattle.nr_ring.proofs.laws.histories_go_on.Goals as goal

pub returns : goal.returns
returns c = beginning_goes_on
