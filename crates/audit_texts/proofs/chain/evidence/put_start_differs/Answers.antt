use Rattle.audit_texts.proofs.Puts.{then_put, then_put_ok}
use Rattle.audit_texts.specs.ChainEvidence.{start_differs_parts}
use Rattle.audit_texts.proofs.chain.evidence.put_start_differs.Goals as goal

pub returns : goal.returns
unfolding start_differs_parts
returns g c =
    let looked = rw c.as_slice.ensures.value at c.in_ok-put_look.ensures in
    then_put_ok c.put_origin.result _ _ _ _ _ (then_put _ _ _ _ _ c.in_ok-put_all.ensures looked) c.put_origin.ensures
