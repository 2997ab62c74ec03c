use Rattle.audit_texts.proofs.Puts.{then_put, then_put_ok}
use Rattle.audit_texts.specs.ChainReleases.{why_parts}
use Rattle.audit_texts.proofs.chain.releases.put_why.Goals as goal

pub returns-in_ok-put_leading-in-Reached : goal.returns-in_ok-put_leading-in-Reached
unfolding why_parts
returns-in_ok-put_leading-in-Reached g c =
    let reach = then_put _ _ _ _ _ c.in_ok-put_call-in-Reached.ensures c.in_ok-put_reach-in-Reached.ensures in
    rw c.in-Reached.is
    (then_put_ok c.put_taken.result _ _ _ _ _ (then_put _ _ _ _ _ reach c.in_ok-put_leading-in-Reached.ensures) c.put_taken.ensures)
