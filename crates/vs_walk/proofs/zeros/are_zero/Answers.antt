use Rattle.vs_walk.proofs.EightWords.{one_other}
use Rattle.vs_walk.proofs.zeros.are_zero.Goals as goal

pub returns-clause-other : goal.returns-clause-other
returns-clause-other c = one_other c.args.words.now c.args.at
