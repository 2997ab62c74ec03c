use Rattle.std.proofs.Common.{◌≡◌, ◌≤◌, length, map, take}
use Rattle.nr_replicas.specs.inside.Settling.{AreDumpsOf}
use Rattle.nr_replicas.proofs.cutting.dumps_of.Given as goal

abbrev pub invariant-loop-node : goal.invariant-loop-node
invariant-loop-node g l = (l.node-index ≤ length l.nodes) × (length l.dumps.items ≡ l.node-index)
    × AreDumpsOf g.J.LogName.depth g.J.LogName.replicas g.K.ReplicasName.tables g.K.ReplicasName.base
    (map (λ node. node.known) (take l.node-index l.nodes)) l.dumps.items
