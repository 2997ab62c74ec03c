use Rattle.audit_texts.proofs.Puts.{then_put_ok}
use Rattle.audit_texts.specs.Evidence.{reserved_parts}
use Rattle.audit_texts.proofs.evidence.put_reserved.Goals as goal

pub returns : goal.returns
unfolding reserved_parts
returns g c =
    let begun = rw (c.as_slice-path.ensures.value, c.of_owner-fault.ensures) at c.in_ok-put_reserved_entry.ensures in
    then_put_ok c.put_owner.result _ _ _ _ _ begun c.put_owner.ensures
