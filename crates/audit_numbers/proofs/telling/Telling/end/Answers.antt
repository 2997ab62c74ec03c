use Rattle.std.proofs.Common.{subst}
use Rattle.std.specs.Prelude.{IfOk}
use Rattle.std.proofs.lemmas.Result.{IfOk-weaker}
use Rattle.nr_explain.specs.ChainExplanation.{Explains, IsExplanationOfChain}
use Rattle.audit_numbers.specs.Chains.{IsTelling}
use Rattle.audit_numbers.proofs.Pieces.{end_of_explained, reader_ends}
use Rattle.audit_numbers.proofs.telling.Telling.end.Goals as goal

pub returns-in-Reading : goal.returns-in-Reading
returns-in-Reading c = λ bytes told.
    reader_ends bytes c.in-Reading.reader c.end.result c.end.ensures (subst (IsTelling bytes) c.in-Reading.is told)

pub returns-in-Explained : goal.returns-in-Explained
returns-in-Explained c = λ bytes told. end_of_explained bytes c.in-Explained.explanation (subst (IsTelling bytes) c.in-Explained.is told)
