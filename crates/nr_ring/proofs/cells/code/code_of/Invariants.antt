use Rattle.std.proofs.Common.{◌≡◌, take}
use Rattle.nr_ring.specs.inside.Codes.{packed, rooms_of}
use Rattle.nr_ring.proofs.cells.code.code_of.Given as goal

abbrev pub invariant-loop-replica : goal.invariant-loop-replica
invariant-loop-replica l = l.code ≡ packed l.fn.tail (rooms_of l.fn.tail (take l.replica l.fn.locals) 0 l.fn.count)
