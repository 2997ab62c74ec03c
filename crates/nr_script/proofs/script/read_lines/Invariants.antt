use Rattle.std.proofs.Common.{length}
use Rattle.nr_script.specs.inside.Left.{parts_left}
use Rattle.nr_script.specs.inside.Reading.{IsReadUpTo}
use Rattle.nr_script.proofs.script.read_lines.Given as goal

abbrev pub invariant-loop-left : goal.invariant-loop-left
invariant-loop-left l = IsReadUpTo l.depth l.bytes l.left l.number l.reading

abbrev pub decreases-loop-left : goal.decreases-loop-left
decreases-loop-left l = length (parts_left 10 l.left)
