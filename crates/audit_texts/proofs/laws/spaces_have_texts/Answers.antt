use Rattle.audit_texts.proofs.Texts.{equal_spaces, text_of_space}
use Rattle.audit_texts.proofs.laws.spaces_have_texts.Goals as goal

pub returns : goal.returns
returns c = record { of_dump = text_of_space; equal = equal_spaces }
