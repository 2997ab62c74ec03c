use denote.RattleType.{RattleType}
use denote.Param.Send.{IsSend}
use Rattle.nr_node.specs.contracts.seen.Seen.{the_row}

pub send : (Y : RattleType) → IsSend (the_row Y)
send Y = record { owned = λ d vs. ((λ vss. (tt, ((λ uss. (tt, tt)), tt))), tt); leaving = λ k f vs. tt }
