use denote.RattleType.{RattleType}
use denote.Param.Send.{IsSend}
use Rattle.vs_arena.proofs.RegionCrosses.{Region-send}
use Rattle.vs_arena.specs.contracts.region.Region.{the_row}

pub send : (R : RattleType) → IsSend R → IsSend (the_row R)
send = Region-send
