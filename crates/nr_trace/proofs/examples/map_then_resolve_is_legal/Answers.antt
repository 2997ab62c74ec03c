use Rattle.nr_trace.proofs.ExamplesOfOrders.{legal}
use Rattle.nr_trace.proofs.examples.map_then_resolve_is_legal.Goals as goal

pub returns : goal.returns
returns c = legal
