use Rattle.std.proofs.Common.{◌≡◌, take}
use Rattle.nr_trace.specs.Orders.{space_from}
use Rattle.nr_audit.specs.Verdict.{space_of}
use Rattle.nr_explain.specs.Facts.{IsLastChangeFrom, looks_from}
use Rattle.nr_explain.proofs.search.spaces.last_look.Given as goal

abbrev pub invariant-loop-place : goal.invariant-loop-place
invariant-loop-place l = record {
  space : l.space ≡ space_of l.trace.layout (space_from l.fn.start.space l.trace (take l.place l.trace.log));
  looks : l.looks ≡ looks_from l.fn.start.space l.trace l.address l.place;
  changed : IsLastChangeFrom l.fn.start.space l.trace l.address l.place l.changed;
}
