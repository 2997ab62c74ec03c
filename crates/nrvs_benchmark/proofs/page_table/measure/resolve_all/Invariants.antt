use Rattle.std.proofs.Common.{◌≡◌, take}
use Rattle.vs_types.specs.Space.{Space}
use Rattle.vs_space.specs.Table.{IsTableOf}
use Rattle.nrvs_benchmark.specs.Work.{sum_of_looks}
use Rattle.nrvs_benchmark.proofs.page_table.measure.resolve_all.Given as goal

abbrev pub invariant-loop-address : goal.invariant-loop-address
invariant-loop-address g l = (space : Space) → IsTableOf l.space space → l.sum.value ≡ sum_of_looks space l.fn.sum.value (take l.address-index l.addresses)
