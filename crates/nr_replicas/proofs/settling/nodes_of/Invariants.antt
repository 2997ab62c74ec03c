use Rattle.std.proofs.Common.{◌≡◌, ◌+◌, All, length, map}
use Rattle.nr_replicas.specs.inside.Replicas.{IsNodeOf}
use Rattle.nr_replicas.specs.inside.Settling.{OwnRising}
use Rattle.nr_replicas.proofs.settling.nodes_of.Given as goal

abbrev pub invariant-loop-replica : goal.invariant-loop-replica
invariant-loop-replica g l =
    All (IsNodeOf g.K.ReplicasName.log g.K.ReplicasName.tables g.K.ReplicasName.base) l.nodes.items
    × (length l.nodes.items + length l.replica-iterator.rest.items ≡ length l.fn.shared.items)
    × OwnRising 0 (map (λ node. node.known) l.nodes.items)
