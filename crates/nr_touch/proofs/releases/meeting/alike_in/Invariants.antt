use Rattle.std.proofs.Common.{take}
use Rattle.nr_touch.specs.inside.Alike.{AreAlikeTo}
use Rattle.nr_touch.specs.inside.Levels.{left_in}
use Rattle.nr_touch.proofs.releases.meeting.alike_in.Given as goal

abbrev pub invariant-loop-level : goal.invariant-loop-level
invariant-loop-level l = AreAlikeTo (left_in (take l.level-index l.levels)) l.address l.last
