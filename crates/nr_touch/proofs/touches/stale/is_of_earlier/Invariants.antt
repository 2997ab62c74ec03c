use Rattle.std.proofs.Common.{◌↔◌, take, IsTrue}
use Rattle.nr_touch.specs.inside.Earlier.{IsAnsweredSo}
use Rattle.nr_touch.specs.inside.Levels.{left_in}
use Rattle.nr_touch.proofs.touches.stale.is_of_earlier.Given as goal

abbrev pub invariant-loop-level : goal.invariant-loop-level
invariant-loop-level l = IsTrue l.found ↔ IsAnsweredSo (left_in (take l.level-index l.earlier)) l.touch
