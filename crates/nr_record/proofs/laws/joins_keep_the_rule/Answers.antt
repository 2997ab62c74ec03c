use Rattle.nr_record.proofs.Draws.{join_keeps}
use Rattle.nr_record.proofs.laws.joins_keep_the_rule.Goals as goal

pub returns : goal.returns
returns c = join_keeps
