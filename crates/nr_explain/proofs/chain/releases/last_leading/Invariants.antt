use Rattle.std.proofs.Common.{◌≡◌, ◌+◌, take}
use Rattle.nr_trace.specs.Orders.{space_from}
use Rattle.nr_audit.specs.Verdict.{space_of}
use Rattle.nr_explain.specs.inside.Reaches.{FindsLeadingBelow}
use Rattle.nr_explain.proofs.chain.releases.last_leading.Given as goal

abbrev pub invariant-loop-place : goal.invariant-loop-place
invariant-loop-place l = record {
  space : l.space ≡ space_of l.segment.layout (space_from l.fn.start.space l.segment (take l.place l.segment.log));
  found : FindsLeadingBelow l.fn.start.space l.segment l.address l.window.first (l.place + 1) l.given l.found;
}
