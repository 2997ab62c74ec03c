use Rattle.std.proofs.Common.{◌≡◌, take}
use Rattle.nr_order.proofs.copies.copy_all.Given as goal

abbrev pub invariant-loop-index : goal.invariant-loop-index
invariant-loop-index l = l.copies.items ≡ take l.index l.dumps
