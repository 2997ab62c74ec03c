use Rattle.std.proofs.Common.{string_bytes, subst}
use Rattle.std.proofs.lemmas.Result.{IfOk-weaker}
use Rattle.audit_readers.specs.inside.Begun.{BeginsSo}
use Rattle.audit_readers.proofs.Beginning.{said_of_first, said_unread}
use Rattle.audit_readers.proofs.chain.pages.start_report.Goals as goal

pub returns-in-Ok : goal.returns-in-Ok
returns-in-Ok c = λ bytes begins.
    let starts = subst (BeginsSo bytes) c.in-Ok.is begins in
    IfOk-weaker c.first_report.result _ _
    (λ report says. said_of_first c.args.as_ranges bytes c.in-Ok.segment starts.0 (string_bytes report.text) report.status starts.1 says)
    c.first_report.ensures

pub returns-in-Err : goal.returns-in-Err
returns-in-Err c = λ bytes begins.
    IfOk-weaker c.unread_report.result _ _
    (λ report says. said_unread c.args.as_ranges bytes c.in-Err.fail (string_bytes report.text) report.status
    (subst (BeginsSo bytes) c.in-Err.is begins) says)
    c.unread_report.ensures
