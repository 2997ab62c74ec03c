use Rattle.audit_texts.specs.ChainEvidence.{allowed_parts}
use Rattle.audit_texts.proofs.chain.evidence.put_allowed.Goals as goal

pub returns : goal.returns
unfolding allowed_parts
returns g c = rw c.allowed_says.ensures at c.put_all.ensures
