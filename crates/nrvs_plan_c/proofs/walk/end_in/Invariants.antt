use Rattle.std.proofs.Common.{◌≤◌}
use Rattle.vs_walk.specs.Memory.{Memory}
use Rattle.vs_plan.specs.Way.{IsWay}
use Rattle.nrvs_plan_c.specs.Direct.{HasFramesWithin}
use Rattle.nrvs_plan_c.specs.Kept.{depth_in, target_of}
use Rattle.vs_types.specs.Bits.{rights_at}
use Rattle.nrvs_plan_c.proofs.walk.end_in.Given as goal

abbrev pub invariant-loop-level : goal.invariant-loop-level
invariant-loop-level l = (1 ≤ l.level) × (l.level ≤ 5)
    × ((memory : Memory) → HasFramesWithin (target_of l.fn.target) memory l.fn.first l.fn.frames
    → IsWay (depth_in l.fn.target.levels) memory l.fn.target.root l.fn.address l.level l.number (rights_at l.allowed))

abbrev pub decreases-loop-level : goal.decreases-loop-level
decreases-loop-level l = l.level
