use Rattle.std.proofs.Common.{string_bytes}
use Rattle.audit_readers.proofs.Reports.{writes_report}
use Rattle.audit_readers.proofs.chain.pages.chain_start_io.Goals as goal

pub returns-clause-ok : goal.returns-clause-ok
returns-clause-ok g c =
    let first = c.in_ok-read.ensures.ok in
    let report = c.in_ok-report.report in
    writes_report _ _ _ _ c.write_report.result first.input (string_bytes report.text) report.status first.is_read
    (c.in_ok-report.ensures first.input first.begins) c.write_report.ensures.ok
