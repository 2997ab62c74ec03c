use Rattle.nr_ring.proofs.NewLog.{new_kept}
use Rattle.nr_ring.proofs.passing.steps.new_logs_keep_the_rule.Goals as goal

pub returns : goal.returns
returns c = new_kept
