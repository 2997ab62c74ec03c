use Rattle.nr_replicas.proofs.Fits.{action_from}
use Rattle.nr_replicas.proofs.local.Local.collect.Goals as goal

pub collect-requires-clause-fit : goal.collect-requires-clause-fit
collect-requires-clause-fit g c waiting is = action_from g.J.LogName.depth waiting.op is
