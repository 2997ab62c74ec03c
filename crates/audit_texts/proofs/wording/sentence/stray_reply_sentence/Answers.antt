use Rattle.audit_texts.proofs.wording.sentence.stray_reply_sentence.Goals as goal

pub returns : goal.returns
returns c = rw c.stray_text-named.ensures at c.format.ensures.ok
