use Rattle.vs_walk.proofs.LawsOfTraversals.{root_first, reached_held, reached_distinct, no_fault}
use Rattle.vs_walk.proofs.laws.reached_once.Goals as goal

pub returns : goal.returns
returns c = record { root_first = root_first; held = reached_held; once = reached_distinct; faultless = no_fault }
