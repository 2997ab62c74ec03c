use Rattle.audit_texts.proofs.Puts.{then_put, then_put_ok}
use Rattle.audit_texts.specs.ChainEvidence.{bad_segment_parts}
use Rattle.audit_texts.proofs.chain.evidence.put_bad_segment.Goals as goal

pub returns : goal.returns
unfolding bad_segment_parts
returns g c =
    let read = rw (c.offset.ensures, c.as_slice.ensures.value, c.size.ensures) at c.in_ok-put_read.ensures in
    then_put_ok c.put_allowed.result _ _ _ _ _ (then_put _ _ _ _ _ c.in_ok-put_begin.ensures read) c.put_allowed.ensures
