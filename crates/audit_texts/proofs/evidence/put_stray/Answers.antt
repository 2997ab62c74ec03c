use Rattle.audit_texts.proofs.Puts.{then_put_ok}
use Rattle.audit_texts.specs.Evidence.{stray_parts}
use Rattle.audit_texts.proofs.evidence.put_stray.Goals as goal

pub returns : goal.returns
unfolding stray_parts
returns g c = then_put_ok c.put_replica.result _ _ _ _ _ c.in_ok-put_stray_frame.ensures c.put_replica.ensures
