use Rattle.nrvs_benchmark.specs.Work.{after_rounds, no_progress}
use Rattle.nrvs_benchmark.proofs.Rounds.{IsAt}
use Rattle.nrvs_benchmark.proofs.page_table.measure.measure.Given as goal

abbrev pub invariant-loop-done : goal.invariant-loop-done
invariant-loop-done g l = IsAt l.load.depth 4096 (after_rounds l.load.depth 4096 l.load l.done no_progress) l.space l.measured.sum.value
