use Rattle.std.proofs.Common.{Ok}
use Rattle.audit_readers.specs.declared.fault.ProgFault.{ProgFault}
use Rattle.audit_readers.proofs.Audits.{is_named_audit}
use Rattle.audit_readers.proofs.Reports.{writes_report}
use Rattle.audit_readers.proofs.audit.named_audit_io.Goals as goal

pub returns-clause-ok : goal.returns-clause-ok
returns-clause-ok g c =
    let report = c.in_ok-report.report in
    let has = c.in_ok-read.ensures.ok in
    let is = is_named_audit c.args.as_json c.depends-counts.result c.args.name.now has.input report.text.bytes.items report.status c.in_ok-found.found
    (λ none. (c.depends-counts.ensures none).0) (c.in_ok-found.ensures has.input has.read_is) c.in_ok-report.ensures.text c.in_ok-report.ensures.status in
    writes_report {E = ProgFault} _ _ _ _ (Ok c.in_ok-status.status) has.input report.text.bytes.items report.status has.is_read is c.in_ok-status.ensures.ok
