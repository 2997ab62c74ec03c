use Rattle.std.proofs.Common.{map}
use Rattle.nrvs.proofs.ServedChains.{segment_told}
use Rattle.nrvs.proofs.runs.served_chain.run_segment.Goals as goal

pub returns-in-Ok-clause-ok : goal.returns-in-Ok-clause-ok
returns-in-Ok-clause-ok g c =
    segment_told c.args.chain.as_trace c.args.run (map (λ script. script.items) c.args.scripts.items) _ _ c.in-Ok.outcome c.tell_segment.result c.in-Ok.ensures
    c.tell_segment.ensures.after c.tell_segment.ensures.ok
