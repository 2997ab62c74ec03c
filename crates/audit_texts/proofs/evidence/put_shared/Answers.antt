use Rattle.audit_texts.proofs.Puts.{then_put_ok}
use Rattle.audit_texts.specs.Evidence.{shared_parts}
use Rattle.audit_texts.proofs.evidence.put_shared.Goals as goal

pub returns : goal.returns
unfolding shared_parts
returns g c =
    let begun = rw (c.as_slice-first.ensures.value, c.as_slice-second.ensures.value, c.of_owner-fault.ensures) at c.in_ok-put_shared_frame.ensures in
    then_put_ok c.put_owner.result _ _ _ _ _ begun c.put_owner.ensures
