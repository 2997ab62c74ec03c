use Rattle.audit_texts.proofs.chain.releases.otherwise_sentence.Goals as goal

pub returns : goal.returns
returns c = rw c.in_ok-told.ensures at c.format.ensures.ok
