use Rattle.audit_texts.proofs.Puts.{then_put, then_put_ok}
use Rattle.audit_texts.specs.Evidence.{bad_unit_parts}
use Rattle.audit_texts.proofs.evidence.put_bad_unit.Goals as goal

pub returns : goal.returns
unfolding bad_unit_parts
returns g c =
    let read = rw (c.as_slice.ensures.value, c.size.ensures) at c.in_ok-put_read.ensures in
    then_put_ok c.put_all-2.result _ _ _ _ _ (then_put _ _ _ _ _ c.in_ok-put_all.ensures read) c.put_all-2.ensures
