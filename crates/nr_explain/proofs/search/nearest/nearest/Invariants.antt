use Rattle.std.proofs.Common.{◌≡◌, ◌+◌, length, take}
use Rattle.nr_trace.specs.Orders.{space_from}
use Rattle.nr_audit.specs.Verdict.{space_of}
use Rattle.nr_explain.specs.inside.Nearest.{IsNearestBelow}
use Rattle.nr_explain.proofs.search.nearest.nearest.Given as goal

abbrev pub invariant-loop-place : goal.invariant-loop-place
invariant-loop-place l = record {
  space : l.space ≡ space_of l.trace.layout (space_from l.fn.start.space l.trace (take l.place l.trace.log));
  near : IsNearestBelow l.fn.start.space l.trace l.request l.told l.below l.above (l.place + 1) l.right;
  places : l.right.places ≡ length l.trace.log;
}
