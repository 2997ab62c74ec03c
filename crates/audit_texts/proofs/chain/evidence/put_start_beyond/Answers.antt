use Rattle.audit_texts.specs.ChainEvidence.{start_beyond_parts}
use Rattle.audit_texts.proofs.chain.evidence.put_start_beyond.Goals as goal

pub returns : goal.returns
unfolding start_beyond_parts
returns g c = rw c.as_slice.ensures.value at c.put_all.ensures
