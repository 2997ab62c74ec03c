use Rattle.nr_touch.specs.inside.Joined.{Behind}
use Rattle.nr_touch.specs.inside.Excused.{AreExcusedBelow}
use Rattle.nr_touch.proofs.touches.excuse.excuses_of.Given as goal

abbrev pub invariant-loop-index : goal.invariant-loop-index
invariant-loop-index l = (b : Behind l.joined) → AreExcusedBelow b.before b.start b.segment l.touches l.excuses.items l.index
