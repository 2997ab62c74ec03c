use Rattle.std.proofs.Common.{◌≡◌}
use Rattle.nr_trace.specs.Orders.{floor}
use Rattle.nr_explain.specs.inside.Searches.{IsBinding}
use Rattle.nr_explain.proofs.search.replies.binding_reply.Given as goal

abbrev pub invariant-loop-index : goal.invariant-loop-index
invariant-loop-index l = record {
  floor : l.floor ≡ floor l.trace l.index;
  binding : IsBinding l.trace l.index l.floor l.binding;
}
