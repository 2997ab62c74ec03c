use Rattle.audit_texts.proofs.chain.sentence.stale_sentence.Goals as goal

pub returns : goal.returns
returns c =
    rw (
      c.in_ok-told.ensures,
      c.limit_words-limit.ensures,
      c.in_ok-window.ensures,
      c.fewest.ensures,
      c.earlier_words-earlier.ensures,
      c.deref.ensures.value,
    )
    at c.format.ensures.ok
