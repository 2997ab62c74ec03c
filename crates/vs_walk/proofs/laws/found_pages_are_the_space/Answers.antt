use Rattle.vs_walk.proofs.LawsOfSpaces.{found_translates, translates_found, translates_shared}
use Rattle.vs_walk.proofs.LawsOfFoundSpaces.{found_space}
use Rattle.vs_walk.proofs.laws.found_pages_are_the_space.Goals as goal

pub returns : goal.returns
returns c = record { translates = found_translates; found = translates_found; fault = translates_shared; space = found_space }
