use Rattle.nr_trace.proofs.Taken.{ArePlacing}
use Rattle.nr_trace.proofs.reading.lists.push_places.Given as goal

abbrev pub invariant-loop-k : goal.invariant-loop-k
invariant-loop-k l = ArePlacing l.fn.log.items l.bytes l.log.items l.k l.rest
