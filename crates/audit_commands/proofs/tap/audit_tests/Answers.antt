use Rattle.std.proofs.Common.{refl}
use Rattle.audit_commands.proofs.Tests.{all_tests, next_test, no_test}
use Rattle.audit_commands.proofs.tap.audit_tests.Goals as goal

pub loop-index-init : goal.loop-index-init
loop-index-init g c = no_test (g.F.FilesByName.file_bytes c.args.files.now) _

pub loop-index-preserved : goal.loop-index-preserved
loop-index-preserved g c =
    next_test (g.F.FilesByName.file_bytes c.args.files.now) c.args.names.now c.loop-index.index _ _ _ _ _ _ _ _ c.loop-index-test.true refl
    c.max-worst.ensures c.loop-index.invariant c.in_ok-status.ensures.ok

pub returns-clause-ok : goal.returns-clause-ok
returns-clause-ok g c =
    all_tests (g.F.FilesByName.file_bytes c.args.files.now) c.args.names.now c.loop-index.index _ _ _ _ _ refl c.loop-index-test.false
    c.in_ok-write_plan.ensures.ok c.loop-index.invariant
