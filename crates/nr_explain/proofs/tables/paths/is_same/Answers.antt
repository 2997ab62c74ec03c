use Rattle.nr_explain.proofs.Steps.{same_ways}
use Rattle.nr_explain.proofs.tables.paths.is_same.Goals as goal

pub returns : goal.returns
returns c = same_ways c.args.left.now c.args.right.now c.eq.result c.eq.ensures
