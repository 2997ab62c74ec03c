use Rattle.vs_walk.proofs.LawsOfTranslations.{one_space}
use Rattle.vs_walk.proofs.laws.translates_as_one_space.Goals as goal

pub returns : goal.returns
returns c = one_space
