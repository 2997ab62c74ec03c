use Rattle.std.proofs.Common.{◌≡◌, All, length}
use Rattle.nr_replicas.specs.inside.Replicas.{IsNodeOf}
use Rattle.nr_replicas.proofs.cutting.catch_up_all.Given as goal

abbrev pub invariant-loop-i : goal.invariant-loop-i
invariant-loop-i g l = (length l.nodes ≡ length l.fn.nodes)
    × All (IsNodeOf g.K.ReplicasName.log g.K.ReplicasName.tables g.K.ReplicasName.base) l.nodes
