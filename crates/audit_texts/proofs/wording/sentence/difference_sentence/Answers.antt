use Rattle.audit_texts.proofs.wording.sentence.difference_sentence.Goals as goal

pub returns : goal.returns
returns c = rw (c.in_ok-at.ensures, c.in_ok-found.ensures, c.in_ok-applied.ensures, c.in_ok-wanted.ensures) at c.format.ensures.ok
