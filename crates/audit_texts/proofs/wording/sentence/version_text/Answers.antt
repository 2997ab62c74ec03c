use Rattle.audit_texts.proofs.wording.sentence.version_text.Goals as goal

pub returns : goal.returns
returns c = rw (c.in_ok-read.ensures, c.deref.ensures.value) at c.format.ensures.ok
