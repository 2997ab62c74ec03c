use Rattle.audit_texts.proofs.FaultTexts.{named_as_told}
use Rattle.audit_texts.proofs.laws.json_names_faults_as_the_text.Goals as goal

pub returns : goal.returns
returns c = named_as_told
