use Rattle.nr_ring.proofs.Joins.{join_merges}
use Rattle.nr_ring.proofs.passing.steps.joins_keep_the_rule.Goals as goal

pub returns : goal.returns
returns c = join_merges
