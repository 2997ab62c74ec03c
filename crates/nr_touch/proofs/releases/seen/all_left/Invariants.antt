use Rattle.std.proofs.Common.{◌≡◌, map, take}
use Rattle.nr_touch.specs.inside.Levels.{left_in}
use Rattle.nr_touch.specs.inside.Reached.{seen_left}
use Rattle.nr_touch.proofs.releases.seen.all_left.Given as goal

abbrev pub invariant-loop-level : goal.invariant-loop-level
invariant-loop-level l = l.seen.items ≡ map seen_left (left_in (take l.level-index l.levels))
