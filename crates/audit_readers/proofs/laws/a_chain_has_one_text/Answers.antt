use Rattle.audit_readers.proofs.PagesLaws.{one_start, one_end}
use Rattle.audit_readers.proofs.laws.a_chain_has_one_text.Goals as goal

pub returns-clause-start : goal.returns-clause-start
returns-clause-start c = one_start

pub returns-clause-end : goal.returns-clause-end
returns-clause-end c = one_end
