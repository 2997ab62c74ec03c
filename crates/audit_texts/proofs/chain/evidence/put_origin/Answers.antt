use Rattle.audit_texts.specs.ChainEvidence.{origin_parts}
use Rattle.audit_texts.proofs.chain.evidence.put_origin.Goals as goal

pub returns : goal.returns
unfolding origin_parts
returns g c = rw c.origin_says.ensures at c.put_all.ensures
