use Rattle.audit_texts.specs.ChainSentence.{segment_sentence}
use Rattle.audit_texts.proofs.chain.sentence.segment_sentence.Goals as goal

pub returns-in-Differs : goal.returns-in-Differs
unfolding segment_sentence
returns-in-Differs c = rw c.in-Differs.is c.difference_sentence.ensures
