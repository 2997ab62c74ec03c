use Rattle.std.proofs.Common.{◌≡◌, take}
use Rattle.nr_order.proofs.copies.with_frame.Given as goal

abbrev pub invariant-loop-index : goal.invariant-loop-index
invariant-loop-index l = l.opened ≡ record { dump = l.fn.dump; number = l.number; coming = take l.index l.words }
