use Rattle.vs_walk.proofs.LawsOfDumps.{dump_is_whole}
use Rattle.vs_walk.proofs.laws.dumps_are_whole.Goals as goal

pub returns : goal.returns
returns c = dump_is_whole
