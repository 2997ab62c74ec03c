use Rattle.audit_texts.proofs.Puts.{then_put_ok}
use Rattle.audit_texts.specs.Evidence.{missing_parts}
use Rattle.audit_texts.proofs.evidence.put_missing.Goals as goal

pub returns : goal.returns
unfolding missing_parts
returns g c =
    let begun = rw (c.as_slice.ensures.value, c.of_owner-fault.ensures, c.of_owner-end.ensures) at c.in_ok-put_missing_frame.ensures in
    then_put_ok c.put_owner.result _ _ _ _ _ begun c.put_owner.ensures
