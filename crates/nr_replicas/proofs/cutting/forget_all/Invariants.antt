use Rattle.std.proofs.Common.{◌≡◌, ◌++◌, length, map, take, drop}
use Rattle.nr_replicas.specs.inside.Settling.{forgotten}
use Rattle.nr_replicas.proofs.cutting.forget_all.Given as goal

abbrev pub invariant-loop-i : goal.invariant-loop-i
invariant-loop-i g l = (length l.nodes ≡ length l.fn.nodes)
    × (l.nodes ≡ map forgotten (take l.i l.fn.nodes) ++ drop l.i l.fn.nodes)
