use Rattle.std.proofs.Common.{◌≡◌, take}
use Rattle.nr_trace.specs.Orders.{space_from}
use Rattle.nr_audit.specs.Verdict.{space_of}
use Rattle.nr_explain.proofs.search.spaces.space_from.Given as goal

abbrev pub invariant-loop-place : goal.invariant-loop-place
invariant-loop-place l = l.space ≡ space_of l.trace.layout (space_from l.fn.start.space l.trace (take l.place l.trace.log))
