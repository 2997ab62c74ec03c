use Rattle.audit_texts.proofs.chain.sentence.start_differs_sentence.Goals as goal

pub returns : goal.returns
returns c = rw (c.in_ok-at.ensures, c.in_ok-found.ensures, c.in_ok-wanted.ensures) at c.format.ensures.ok
