use Rattle.audit_texts.proofs.wording.sentence.past_end_sentence.Goals as goal

pub returns : goal.returns
returns c = rw c.in_ok-seen.ensures at c.format.ensures.ok
