use Rattle.vs_walk.proofs.LawsOfTranslations.{not_reserved, not_missing}
use Rattle.vs_walk.proofs.laws.spaces_translate_without_fault.Goals as goal

pub returns : goal.returns
returns c = record { reserved = not_reserved; missing = not_missing }
