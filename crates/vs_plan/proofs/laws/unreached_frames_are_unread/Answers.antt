use Rattle.vs_plan.proofs.Unread.{unread_keeps}
use Rattle.vs_plan.proofs.laws.unreached_frames_are_unread.Goals as goal
use Rattle.vs_plan.proofs.Filled.{walk_as}

pub returns : goal.returns
returns c = record {
  keep = λ depth root old new moments same is. unread_keeps depth root old new same moments is;
  walks = λ depth root old new address same. walk_as depth root old new same address;
}
