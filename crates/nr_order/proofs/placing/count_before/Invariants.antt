use Rattle.std.proofs.Common.{◌≡◌, ◌-◌, length, take}
use Rattle.nr_trace.specs.Orders.{updates}
use Rattle.nr_order.specs.inside.Counted.{AreCountedFrom}
use Rattle.nr_order.proofs.placing.count_before.Given as goal

abbrev pub invariant-loop-passed : goal.invariant-loop-passed
invariant-loop-passed l =
    (l.before ≡ length (updates l.trace (take (length l.order - l.passed) l.order)))
    × AreCountedFrom l.trace l.order (length l.order - l.passed) l.counts.items
