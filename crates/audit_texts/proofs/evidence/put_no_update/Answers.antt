use Rattle.audit_texts.specs.Evidence.{no_update_parts}
use Rattle.audit_texts.proofs.evidence.put_no_update.Goals as goal

pub returns : goal.returns
unfolding no_update_parts
returns g c = rw (c.from.ensures, c.from-2.ensures) at c.put_all.ensures
