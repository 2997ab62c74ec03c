use Rattle.audit_commands.proofs.Lines.{next_file, no_file}
use Rattle.audit_commands.proofs.running.audit_each.Goals as goal

pub loop-name-init : goal.loop-name-init
loop-name-init g c = no_file c.args.as_json (g.F.FilesByName.file_bytes c.args.files.now) (g.W.Write.contents c.args.output.now)

pub loop-name-preserved : goal.loop-name-preserved
loop-name-preserved g c =
    next_file c.args.as_json (g.F.FilesByName.file_bytes c.args.files.now) c.args.names.now c.loop-name.name-index _ _ _ _ _ _ _ c.loop-name-test.true
    c.max-worst.ensures c.loop-name.invariant c.in_ok-status.ensures.ok
