use Rattle.audit_texts.proofs.Puts.{then_put_ok}
use Rattle.audit_texts.specs.Evidence.{difference_parts}
use Rattle.audit_texts.proofs.evidence.put_difference.Goals as goal

pub returns : goal.returns
unfolding difference_parts
returns g c = then_put_ok c.put_changed.result _ _ _ _ _ c.in_ok-put_unlike.ensures c.put_changed.ensures
