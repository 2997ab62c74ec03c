use Rattle.audit_texts.proofs.Puts.{then_put_ok}
use Rattle.audit_texts.specs.Evidence.{unlike_parts}
use Rattle.audit_texts.proofs.shared.put_unlike.Goals as goal

pub returns : goal.returns
unfolding unlike_parts
returns g c =
    let begun = rw (c.from.ensures, c.from-2.ensures) at c.in_ok-put_all.ensures in
    let looked = rw c.as_slice.ensures.value at c.put_look.ensures in
    then_put_ok c.put_look.result _ _ _ _ _ begun looked
