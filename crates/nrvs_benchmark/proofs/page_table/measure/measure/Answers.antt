use Rattle.nrvs_benchmark.proofs.Rounds.{rounds_more}
use Rattle.nrvs_benchmark.proofs.page_table.measure.measure.Goals as goal

pub loop-done-preserved : goal.loop-done-preserved
loop-done-preserved g c =
    rounds_more c.args.load.now.depth 4096 c.args.load.now c.loop-done.done c.loop-done.space c.round.new.space c.begin_round.new.self.sum.value
    c.round.new.self.sum.value (rw c.begin_round.ensures c.loop-done.invariant) c.in_ok-round.ensures.ok
