use Rattle.std.proofs.Common.{◌-◌, ◌≤◌, length, take}
use Rattle.nr_touch.specs.inside.Levels.{AreLevels}
use Rattle.nr_touch.proofs.touches.tail.merged.Given as goal

abbrev pub invariant-loop-passed : goal.invariant-loop-passed
invariant-loop-passed l = record {
  levels : AreLevels (take l.start l.changes) (take (l.count - l.passed) l.levels);
  within : l.start ≤ length l.changes;
}
