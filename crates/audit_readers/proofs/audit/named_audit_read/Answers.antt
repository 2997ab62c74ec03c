use Rattle.audit_readers.proofs.Audits.{is_named_audit}
use Rattle.audit_readers.proofs.audit.named_audit_read.Goals as goal

pub returns : goal.returns
returns c = λ bytes reads.
    is_named_audit c.args.as_json c.args.as_json c.args.name.now bytes c.in_ok-report.report.text.bytes.items c.in_ok-report.report.status c.in_ok-found.found
    (λ none. none) (c.in_ok-found.ensures bytes reads) c.in_ok-report.ensures.text c.in_ok-report.ensures.status
