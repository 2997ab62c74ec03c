use denote.RattleType.{RattleType}
use denote.Param.Send.{IsSync}
use Rattle.vs_arena.proofs.RegionCrosses.{Region-sync}
use Rattle.vs_arena.specs.contracts.region.Region.{the_row}

pub sync : (R : RattleType) → IsSync R → IsSync (the_row R)
sync = Region-sync
