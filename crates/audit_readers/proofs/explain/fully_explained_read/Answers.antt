use Rattle.std.proofs.lemmas.Result.{IfOk-weaker}
use Rattle.audit_readers.proofs.explain.fully_explained_read.Goals as goal

pub returns : goal.returns
returns c =
    λ bytes reads.
    IfOk-weaker c.full_report.result _ _
    (λ report is. record {
      full = c.in_ok-full.full;
      is_full = c.in_ok-full.ensures bytes reads;
      text_is = is.0;
      status_is = is.1;
    }) c.full_report.ensures
