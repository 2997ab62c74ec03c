use Rattle.nr_record.proofs.Draws.{split_keeps}
use Rattle.nr_record.proofs.laws.splits_keep_the_rule.Goals as goal

pub returns : goal.returns
returns c = split_keeps
