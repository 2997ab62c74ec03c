use Rattle.nr_ring.proofs.Splits.{split_forks}
use Rattle.nr_ring.proofs.passing.steps.splits_keep_the_rule.Goals as goal

pub returns : goal.returns
returns c = split_forks
