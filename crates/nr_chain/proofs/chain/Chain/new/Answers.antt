use Rattle.std.proofs.Common.{None, ap}
use Rattle.nr_trace.specs.Feed.{FedSegment}
use Rattle.nr_chain.proofs.Betweens.{fresh_between, seen}
use Rattle.nr_chain.proofs.chain.Chain.new.Goals as goal

pub invariant_of-result : goal.invariant_of-result
invariant_of-result c = fresh_between None c.new.result c.new.ensures tt

pub returns : goal.returns
returns c = ap (λ (feed : FedSegment). seen None feed) c.new.ensures
