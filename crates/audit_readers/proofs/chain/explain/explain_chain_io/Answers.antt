use Rattle.std.proofs.Common.{string_bytes}
use Rattle.audit_readers.proofs.Reports.{writes_report}
use Rattle.audit_readers.proofs.chain.explain.explain_chain_io.Goals as goal

pub returns-clause-ok : goal.returns-clause-ok
returns-clause-ok g c =
    let has = c.in_ok-explanation.ensures.ok in
    let report = c.in_ok-report.report in
    let is = c.in_ok-report.ensures in
    writes_report _ _ _ _ c.write_report.result has.input (string_bytes report.text) report.status has.is_read
    record {
      explanation = c.in_ok-explanation.explanation;
      is_explanation = has.is_explanation;
      text_is = is.0;
      status_is = is.1;
    }
    c.write_report.ensures.ok
