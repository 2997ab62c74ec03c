use Rattle.audit_texts.proofs.chain.releases.reach_sentence.Goals as goal

pub returns : goal.returns
returns c = rw (c.in_ok-at.ensures, c.in_ok-taken.ensures) at c.format.ensures.ok
