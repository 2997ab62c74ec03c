use Rattle.std.proofs.lemmas.Result.{IfOk-weaker}
use Rattle.audit_commands.proofs.Tests.{test_judged, test_refused}
use Rattle.audit_commands.proofs.tap.write_test.Goals as goal

pub returns-in_ok-write_head-in-Ok-clause-ok : goal.returns-in_ok-write_head-in-Ok-clause-ok
returns-in_ok-write_head-in-Ok-clause-ok g c =
    IfOk-weaker c.write_report.result _ _
    (λ status wrote. test_judged _ _ _ _ _ _ _ _ status wrote.0 c.in-Ok.ensures.ok c.in_ok-write_head-in-Ok.ensures.ok wrote.1)
    c.write_report.ensures.ok

pub returns-in-Err-clause-ok : goal.returns-in-Err-clause-ok
returns-in-Err-clause-ok g c =
    IfOk-weaker c.write_refused.result _ _
    (λ status wrote. test_refused _ _ _ c.in-Err.fault _ _ status c.in-Err.ensures.err wrote.0 wrote.1) c.write_refused.ensures.ok
