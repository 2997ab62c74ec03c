use Rattle.std.proofs.Common.{◌≡◌, ◌≤◌, take}
use Rattle.nr_trace.specs.Orders.{space_from}
use Rattle.nr_audit.specs.Verdict.{space_of}
use Rattle.nr_explain.proofs.LeadingMoments.{LeadsUpTo}
use Rattle.nr_explain.proofs.chain.releases.taken_from.Given as goal

abbrev pub invariant-loop-place : goal.invariant-loop-place
invariant-loop-place l = record {
  from : l.entries ≤ l.place;
  space : l.space ≡ space_of l.segment.layout (space_from l.fn.start.space l.segment (take l.place l.segment.log));
  leads : LeadsUpTo l.fn.start.space l.segment l.address l.given l.entries l.place;
}
