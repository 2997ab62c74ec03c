use Rattle.std.proofs.Common.{◌≡◌, ◌+◌, take}
use Rattle.nr_trace.specs.Orders.{space_from}
use Rattle.nr_audit.specs.Verdict.{space_of}
use Rattle.nr_explain.specs.Facts.{looks_from}
use Rattle.nr_explain.specs.inside.Windows.{AreLooksBelow}
use Rattle.nr_explain.proofs.chain.touches.looks_in.Given as goal

abbrev pub invariant-loop-place : goal.invariant-loop-place
invariant-loop-place l = record {
  space : l.space ≡ space_of l.segment.layout (space_from l.fn.start.space l.segment (take l.place l.segment.log));
  looks : l.look ≡ looks_from l.fn.start.space l.segment l.address l.place;
  listed : AreLooksBelow l.fn.start.space l.segment l.address l.window.first (l.place + 1) l.looks.items;
}
