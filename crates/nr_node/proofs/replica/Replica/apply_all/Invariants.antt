use Rattle.std.proofs.Common.{◌≡◌, ◌++◌, take}
use Rattle.nr_node.proofs.replica.Replica.apply_all.Given as goal

abbrev pub invariant-loop-entry : goal.invariant-loop-entry
invariant-loop-entry g l = l.self ≡ record l.fn.self { entries = l.fn.self.entries ++ take l.entry-index l.entries }
