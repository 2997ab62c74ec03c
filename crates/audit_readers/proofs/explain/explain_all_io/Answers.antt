use Rattle.audit_readers.proofs.Reports.{writes_report}
use Rattle.audit_readers.proofs.explain.explain_all_io.Goals as goal

pub returns-clause-ok : goal.returns-clause-ok
returns-clause-ok g c =
    let report = c.in_ok-report.report in
    let has = c.in_ok-read.ensures.ok in
    writes_report _ _ _ _ c.write_report.result has.input report.text.bytes.items report.status has.is_read (c.in_ok-report.ensures has.input has.read_is)
    c.write_report.ensures.ok
