use Rattle.std.proofs.Common.{◌-◌, length}
use Rattle.nr_script.specs.inside.Gathering.{IsFedTo}
use Rattle.nr_script.proofs.gathering.Gathering.feed.Given as goal

abbrev pub invariant-loop-taken : goal.invariant-loop-taken
invariant-loop-taken l = IsFedTo l.depth l.fn.lines l.fn.self l.piece l.most l.taken l.lines l.self

abbrev pub decreases-loop-taken : goal.decreases-loop-taken
decreases-loop-taken l = length l.piece - l.taken
