use Rattle.std.proofs.Common.{◌≤◌, All, take}
use Rattle.nr_node.specs.Node.{replica_of}
use Rattle.nr_replicas.proofs.settling.place_among.Given as goal

abbrev pub invariant-loop-place : goal.invariant-loop-place
invariant-loop-place g l = All (λ node. replica_of node.known.view ≤ l.number) (take l.place l.nodes)
