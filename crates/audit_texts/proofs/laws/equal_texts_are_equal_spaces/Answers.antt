use Rattle.audit_texts.proofs.Texts.{alike_texts, equal_texts}
use Rattle.audit_texts.proofs.laws.equal_texts_are_equal_spaces.Goals as goal

pub returns : goal.returns
returns c = record { equal = equal_texts; alike = alike_texts }
