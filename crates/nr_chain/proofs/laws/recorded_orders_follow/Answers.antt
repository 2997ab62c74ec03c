use Rattle.nr_chain.proofs.Recorded.{recorded_both}
use Rattle.nr_chain.proofs.laws.recorded_orders_follow.Goals as goal

pub returns : goal.returns
returns c = recorded_both
