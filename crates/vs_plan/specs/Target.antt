-- Page tables in a kernel's own frames: how many frames there can be, and which tables may be unlinked.
use Rattle.std.specs.Prelude.{ℕ, ◌-◌, ◌^◌, ◌<◌, ◌≤◌, min, nat_eq, if◌then◌else◌}
use Rattle.vs_types.specs.Depth.{levels}
use Rattle.vs_plan.specs.declared.plans.target.Target.{Target}

-- from 36 bits, the fewest that processors have, to 52, the most
pub record HasPhysBits (target : Target) : Type 0 where
  pub from : 36 ≤ target.phys_bits
  pub to : target.phys_bits ≤ 52

-- the first frame number that lies beyond the physical addresses
abbrev pub frames_end : Target → ℕ
frames_end target = 2 ^ (target.phys_bits - 12)

-- the level of the highest tables whose entries that lead to tables may be cleared: all, or those below the level that is pinned
abbrev pub highest_link : Target → ℕ
highest_link target = if nat_eq target.pinned 0 then levels target.depth else min (levels target.depth) (target.pinned - 1)

-- the tables to which the root's entries lead stay
abbrev pub PinsRoot : Target → Type 0
PinsRoot target = highest_link target < levels target.depth
