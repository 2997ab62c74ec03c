use Rattle.audit_texts.specs.ChainEvidence.{window_parts}
use Rattle.audit_texts.proofs.chain.evidence.put_window.Goals as goal

pub returns : goal.returns
unfolding window_parts
returns g c = rw (c.from.ensures, c.from-2.ensures) at c.put_all.ensures
