use Rattle.std.proofs.Common.{◌≡◌, take}
use Rattle.vs_types.specs.Space.{IsSpace}
use Rattle.nr_trace.specs.Orders.{space_from}
use Rattle.nr_audit.specs.Verdict.{space_of}
use Rattle.nr_explain.specs.Facts.{looks_from}
use Rattle.nr_explain.specs.inside.Windows.{IsWindowBelow}
use Rattle.nr_explain.proofs.chain.windows.window_of.Given as goal

abbrev pub invariant-loop-place : goal.invariant-loop-place
invariant-loop-place l = record {
  space : l.space ≡ space_of l.segment.layout (space_from l.fn.start.space l.segment (take l.place l.segment.log));
  looks : l.look ≡ looks_from l.fn.start.space l.segment l.address l.place;
  is_space : IsSpace l.segment.layout.depth (space_from l.fn.start.space l.segment (take l.place l.segment.log));
  window : IsWindowBelow l.fn.start.space l.segment l.address l.made l.answered l.with_page l.place l.window;
}
