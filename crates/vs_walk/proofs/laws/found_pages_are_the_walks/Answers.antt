use Rattle.vs_walk.proofs.LawsOfTraversals.{faultless_walk, each_walk, none_covers}
use Rattle.vs_walk.proofs.laws.found_pages_are_the_walks.Goals as goal

pub returns : goal.returns
returns c = record { faultless = faultless_walk; each = each_walk; none = none_covers }
