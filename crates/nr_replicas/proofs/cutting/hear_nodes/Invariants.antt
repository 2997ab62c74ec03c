use Rattle.std.proofs.Common.{◌≡◌, All, take}
use Rattle.nr_ring.specs.View.{StartsWith}
use Rattle.nr_replicas.specs.Replicas.{HasHeard}
use Rattle.nr_replicas.proofs.cutting.hear_nodes.Given as goal

abbrev pub invariant-loop-i : goal.invariant-loop-i
invariant-loop-i g l = (l.nodes ≡ l.fn.nodes) × (l.first.log ≡ l.fn.first.log)
    × HasHeard g.J.LogName.depth g.J.LogName.replicas l.fn.first.view l.first.view
    × All (λ node. StartsWith l.first.view.seen node.known.view.seen) (take l.i l.fn.nodes)
