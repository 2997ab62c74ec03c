use Rattle.audit_texts.proofs.Puts.{then_put_ok}
use Rattle.audit_texts.specs.ChainReleases.{lag_parts}
use Rattle.audit_texts.proofs.chain.lags.put_lag.Goals as goal

pub returns-in_ok-put_known-in-Some : goal.returns-in_ok-put_known-in-Some
unfolding lag_parts
returns-in_ok-put_known-in-Some g c =
    rw c.in-Some.is
    (then_put_ok c.put_shown.result _ _ _ _ _ c.in_ok-put_known-in-Some.ensures c.put_shown.ensures)
