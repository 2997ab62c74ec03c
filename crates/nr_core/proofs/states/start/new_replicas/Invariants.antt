use Rattle.std.proofs.Common.{◌≡◌, map, replicate}
use Rattle.std.specs.Prelude.{All}
use Rattle.nr_core.specs.State.{new_replica}
use Rattle.nr_core.specs.inside.Parts.{replica_in, IsReplica}
use Rattle.nr_core.proofs.states.start.new_replicas.Given as goal

abbrev pub invariant-loop-replica : goal.invariant-loop-replica
invariant-loop-replica l = (map replica_in l.replicas.items ≡ replicate l.replica new_replica) × All (IsReplica l.config) l.replicas.items
