use Rattle.nrvs_c.proofs.Views.{counted}
use Rattle.nrvs_c.proofs.view.View.tables.Goals as goal

pub returns-clause-counts : goal.returns-clause-counts
returns-clause-counts c = λ space of. counted _ _ _ c.requires of
