use Rattle.std.proofs.Common.{rules}
use Rattle.nr_core.specs.inside.Parts.{replica_in}
use Rattle.nr_core.proofs.Keeping.{there_or_not}
use Rattle.nr_core.proofs.states.state.Core.has_replica.Goals as goal

pub returns : goal.returns
returns c = rw (c.from.ensures, ← c.self.view_is) (there_or_not replica_in c.self.inside.replicas.items c.args.replica c.len.result (search rules))
