use Rattle.audit_readers.proofs.Inputs.{trace_read}
use Rattle.audit_readers.proofs.resolve.resolve_read.Goals as goal

pub returns-in-Ok : goal.returns-in-Ok
returns-in-Ok c = λ bytes h. c.walk_report.ensures bytes (trace_read bytes c.args.read c.in-Ok.trace c.in-Ok.is h)
