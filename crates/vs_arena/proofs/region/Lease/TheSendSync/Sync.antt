use denote.RattleType.{RattleType}
use denote.Param.Send.{IsSync}
use Rattle.std.specs.declared.alloc.Allocator.{Ghosts}
use Rattle.vs_arena.proofs.RegionCrosses.{Lease-sync}
use Rattle.vs_arena.specs.contracts.region.Lease.{the_row}

pub sync : (R A : RattleType) (g : Ghosts A.Denot) → IsSync (the_row R A g)
sync = Lease-sync
