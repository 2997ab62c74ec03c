use Rattle.std.proofs.Common.{take}
use Rattle.nrvs_benchmark.specs.Work.{Applies}
use Rattle.nrvs_benchmark.proofs.page_table.measure.apply_all.Given as goal

abbrev pub invariant-loop-op : goal.invariant-loop-op
invariant-loop-op g l = Applies l.fn.space (take l.op-index l.ops) l.fn.sum.value l.space l.sum.value
