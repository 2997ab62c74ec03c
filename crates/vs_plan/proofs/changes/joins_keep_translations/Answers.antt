use Rattle.vs_plan.proofs.JoinedParts.{join_alike, join_stays_space}
use Rattle.vs_plan.proofs.changes.joins_keep_translations.Goals as goal

pub returns-clause-spaces : goal.returns-clause-spaces
returns-clause-spaces c = λ depth space page is large parts allowed. join_stays_space is page large parts allowed

pub returns-clause-translations : goal.returns-clause-translations
returns-clause-translations c = λ depth space page is large parts allowed address. join_alike is page large parts allowed address
