use Rattle.audit_texts.specs.Evidence.{early_parts}
use Rattle.audit_texts.proofs.evidence.put_early.Goals as goal

pub returns : goal.returns
unfolding early_parts
returns g c = rw c.from.ensures at c.put_all.ensures
