use Rattle.audit_texts.proofs.wording.sentence.shared_sentence.Goals as goal

pub returns : goal.returns
returns c = rw (c.in_ok-owner.ensures, c.in_ok-frame.ensures) at c.format.ensures.ok
