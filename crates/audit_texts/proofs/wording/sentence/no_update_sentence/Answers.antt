use Rattle.audit_texts.proofs.wording.sentence.no_update_sentence.Goals as goal

pub returns : goal.returns
returns c = rw c.in_ok-named.ensures at c.format.ensures.ok
