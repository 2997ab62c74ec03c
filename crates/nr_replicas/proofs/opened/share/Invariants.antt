use Rattle.std.proofs.Common.{◌≡◌, ◌+◌, All, length, map}
use Rattle.std.specs.Arc.{arc_value}
use Rattle.nr_replicas.specs.inside.Replicas.{IsNodeOf, slots_each}
use Rattle.nr_replicas.proofs.opened.share.Given as goal

abbrev pub invariant-loop-node : goal.invariant-loop-node
invariant-loop-node g l =
    All (IsNodeOf g.K.ReplicasName.log g.K.ReplicasName.tables g.K.ReplicasName.base) l.node-iterator.rest.items
    × (length l.shared.items + length l.node-iterator.rest.items ≡ length l.fn.nodes.items)
    × All (λ n. n ≡ slots_each l.config) (map (λ s. arc_value s.slots) l.shared.items)
