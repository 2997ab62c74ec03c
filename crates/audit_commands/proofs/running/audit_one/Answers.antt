use Rattle.std.proofs.Common.{ap}
use Rattle.std.proofs.lemmas.Result.{IfOk-weaker}
use Rattle.audit_commands.proofs.Lines.{is_unjudged, line_written, no_line}
use Rattle.audit_commands.proofs.running.audit_one.Goals as goal

pub returns-in-Ok-clause-ok : goal.returns-in-Ok-clause-ok
returns-in-Ok-clause-ok g c =
    let ends = c.in-Ok.ensures.ends in
    line_written c.args.as_json (g.F.FilesByName.file_bytes c.args.files.now) c.args.name.now ends.0 _ _ c.in-Ok.status ends.1 ends.2

pub returns-in-Err-clause-ok : goal.returns-in-Err-clause-ok
returns-in-Err-clause-ok g c =
    IfOk-weaker c.refused_status.result _ _
    (λ status h. no_line c.args.as_json (g.F.FilesByName.file_bytes c.args.files.now) c.args.name.now c.in-Err.fault _ _ status
    (is_unjudged c.in-Err.fault c.in-Err.ensures.fault h.1) h.0
    (ap g.W.Write.contents (c.in-Err.ensures.alone h.1)))
    c.refused_status.ensures.ok
