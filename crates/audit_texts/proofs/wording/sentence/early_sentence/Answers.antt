use Rattle.audit_texts.proofs.wording.sentence.early_sentence.Goals as goal

pub returns : goal.returns
returns c = rw c.in_ok-stands.ensures at c.format.ensures.ok
