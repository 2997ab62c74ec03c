use Rattle.audit_texts.proofs.wording.sentence.misplaced_sentence.Goals as goal

pub returns : goal.returns
returns c = rw c.in_ok-there.ensures at c.format.ensures.ok
