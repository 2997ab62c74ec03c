use Rattle.std.proofs.lemmas.Result.{IfOk-weaker}
use Rattle.audit_readers.proofs.explain.explained_read.Goals as goal

pub returns : goal.returns
returns c =
    λ bytes reads.
    IfOk-weaker c.explanation_report.result _ _
    (λ report is. record {
      explanation = c.in_ok-explanation.explanation;
      is_explanation = c.in_ok-explanation.ensures bytes reads;
      text_is = is.0;
      status_is = is.1;
    }) c.explanation_report.ensures
