use Rattle.audit_commands.proofs.tap.judge.Goals as goal

pub returns-clause-ok : goal.returns-clause-ok
returns-clause-ok g c =
    let has = c.in_ok-read.ensures.ok in
    record { input = has.input; is_read = has.is_read; is_audit = c.in_ok-report.ensures has.input has.read_is }
