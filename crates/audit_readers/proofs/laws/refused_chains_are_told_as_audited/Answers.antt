use Rattle.audit_readers.proofs.PagesLaws.{told_as_audited}
use Rattle.audit_readers.proofs.laws.refused_chains_are_told_as_audited.Goals as goal

pub returns : goal.returns
returns c = told_as_audited
