use Rattle.std.proofs.Common.{◌-◌}
use Rattle.nr_touch.proofs.cuts.Looks.{IsListedFrom}
use Rattle.nr_touch.proofs.touches.looks.looks_of.Given as goal

abbrev pub invariant-loop-passed : goal.invariant-loop-passed
invariant-loop-passed l = IsListedFrom l.changes l.address (l.count - l.passed) l.ended l.looks.items
