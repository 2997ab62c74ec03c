use Rattle.audit_texts.proofs.Puts.{then_put_ok}
use Rattle.audit_texts.specs.ChainEvidence.{stale_parts}
use Rattle.audit_texts.proofs.chain.evidence.put_stale.Goals as goal

pub returns : goal.returns
unfolding stale_parts
returns g c = then_put_ok c.put_lag.result _ _ _ _ _ c.in_ok-put_window.ensures c.put_lag.ensures
