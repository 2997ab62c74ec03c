use Rattle.std.proofs.Common.{length}
use Rattle.nr_chain.proofs.ChainSteps.{Leads}
use Rattle.nr_chain.proofs.auditing.audit_chain.Given as goal

abbrev pub invariant-segments : goal.invariant-segments
invariant-segments l = Leads l.fn.bytes l.chain l.orders.items l.rest

abbrev pub decreases-segments : goal.decreases-segments
decreases-segments l = length l.rest
