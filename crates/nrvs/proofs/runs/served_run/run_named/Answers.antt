use Rattle.std.proofs.Common.{map}
use Rattle.std.proofs.lemmas.Result.{IfOk-weaker}
use Rattle.nrvs.specs.ServedRun.{told_of}
use Rattle.nrvs.proofs.ServedRuns.{tells_run}
use Rattle.nrvs.proofs.runs.served_run.run_named.Goals as goal

pub returns-in-Ok-clause-ok : goal.returns-in-Ok-clause-ok
returns-in-Ok-clause-ok g c =
    let outcome = c.in-Ok.outcome in
    let scripts = map (λ script. script.items) c.args.scripts.items in
    let made = c.in-Ok.ensures in
    IfOk-weaker c.write_outcome.result _ _
    (λ status h. (told_of c.args.as_trace outcome, tells_run c.args.config scripts c.args.as_trace outcome status made.verified made.refused h.0, h.1))
    c.write_outcome.ensures.ok
