use Rattle.vs_plan.proofs.PartSpaces.{split_alike, split_stays_space}
use Rattle.vs_plan.proofs.changes.splits_keep_translations.Goals as goal

pub returns-clause-spaces : goal.returns-clause-spaces
returns-clause-spaces c = λ depth space base is large. split_stays_space is base large

pub returns-clause-translations : goal.returns-clause-translations
returns-clause-translations c = λ depth space base is large address. split_alike is base large address
