use Rattle.audit_texts.proofs.wording.sentence.other_answer_sentence.Goals as goal

pub returns : goal.returns
returns c = rw (c.in_ok-told.ensures, c.in_ok-before.ensures, c.in_ok-wanted.ensures) at c.format.ensures.ok
