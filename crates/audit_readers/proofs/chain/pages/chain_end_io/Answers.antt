use Rattle.std.proofs.Common.{string_bytes}
use Rattle.audit_readers.proofs.Reports.{writes_report}
use Rattle.audit_readers.proofs.Ending.{said_of_end}
use Rattle.audit_readers.proofs.chain.pages.chain_end_io.Goals as goal

pub returns-clause-ok : goal.returns-clause-ok
returns-clause-ok g c =
    let report = c.in_ok-report.report in
    let said = said_of_end c.args.as_ranges _ _ _ _ c.in_ok-judged.judged (string_bytes report.text) report.status c.in_ok-judged.ensures.ok
    c.in_ok-report.ensures in
    writes_report _ _ _ _ c.write_report.result said.0 (string_bytes report.text) report.status said.1 said.2 c.write_report.ensures.ok
