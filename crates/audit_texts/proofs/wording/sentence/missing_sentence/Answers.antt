use Rattle.audit_texts.proofs.wording.sentence.missing_sentence.Goals as goal

pub returns : goal.returns
returns c = rw (c.in_ok-leads.ensures, c.as_slice.ensures.value, c.in_ok-frame.ensures, c.of_owner-lacks.ensures) at c.format.ensures.ok
