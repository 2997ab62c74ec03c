use Rattle.audit_texts.proofs.wording.sentence.event_text.Goals as goal

pub returns : goal.returns
returns c = rw c.in_ok-since.ensures at c.format.ensures.ok
