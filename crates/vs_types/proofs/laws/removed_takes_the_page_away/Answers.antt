use Rattle.vs_types.proofs.Looks.{removed_held, removed_looks}
use Rattle.vs_types.proofs.laws.removed_takes_the_page_away.Goals as goal

pub returns-clause-held : goal.returns-clause-held
returns-clause-held c = λ depth limit space page is. removed_held limit is page

pub returns-clause-looks : goal.returns-clause-looks
returns-clause-looks c = λ depth limit space page is. removed_looks limit is page
