use Rattle.audit_texts.proofs.Puts.{then_put, then_put_ok}
use Rattle.audit_texts.specs.Evidence.{other_answer_parts}
use Rattle.audit_texts.proofs.evidence.put_other_answer.Goals as goal

pub returns : goal.returns
unfolding other_answer_parts
returns g c =
    then_put_ok c.put_nearby.result _ _ _ _ _ (then_put _ _ _ _ _ c.in_ok-put_answer.ensures c.in_ok-put_changed.ensures) c.put_nearby.ensures
