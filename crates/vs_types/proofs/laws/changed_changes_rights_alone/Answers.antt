use Rattle.vs_types.proofs.Looks.{changed_held, changed_pages, changed_looks}
use Rattle.vs_types.proofs.laws.changed_changes_rights_alone.Goals as goal

pub returns-clause-held : goal.returns-clause-held
returns-clause-held c = λ depth limit space base rights old is. changed_held limit is base rights old

pub returns-clause-pages : goal.returns-clause-pages
returns-clause-pages c = λ depth limit space page rights old is. changed_pages limit is page rights old

pub returns-clause-looks : goal.returns-clause-looks
returns-clause-looks c = λ depth limit space page rights old is. changed_looks limit is page rights old
