use Rattle.std.proofs.Common.{◌≡◌, ◌<◌, ◌++◌, All, length, map}
use Rattle.nr_replicas.specs.inside.Replicas.{IsNodeOf}
use Rattle.nr_replicas.specs.inside.Settling.{AreDumpsOf}
use Rattle.nr_replicas.proofs.settling.passes_of.Given as goal

abbrev pub invariant-loop-node : goal.invariant-loop-node
invariant-loop-node g l =
    All (IsNodeOf g.K.ReplicasName.log g.K.ReplicasName.tables g.K.ReplicasName.base) l.node-iterator.rest.items
    × (l.passes.items ++ map (λ n. n.known) l.node-iterator.rest.items ≡ map (λ n. n.known) l.fn.nodes.items)
    × (length l.dumps.items ≡ length l.passes.items)
    × AreDumpsOf g.J.LogName.depth g.J.LogName.replicas g.K.ReplicasName.tables g.K.ReplicasName.base l.passes.items l.dumps.items
    × All (λ pass. All (λ replica. replica < g.J.LogName.replicas) pass.view.owns) l.passes.items
