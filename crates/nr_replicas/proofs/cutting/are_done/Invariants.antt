use Rattle.std.proofs.Common.{◌≤◌, All, length, take}
use Rattle.nr_replicas.specs.inside.Settling.{IsDone}
use Rattle.nr_replicas.proofs.cutting.are_done.Given as goal

abbrev pub invariant-loop-node : goal.invariant-loop-node
invariant-loop-node g l = All (IsDone g.J.LogName.replicas l.count) (take l.node-index l.nodes)
