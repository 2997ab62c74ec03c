use Rattle.vs_plan.proofs.FollowParts.{follows_by_parts}
use Rattle.vs_plan.proofs.changes.entries_follow_on_by_their_parts.Goals as goal

pub returns : goal.returns
returns c = λ level first index word phys own some few fits short says aligned low.
    follows_by_parts level first index word phys own some few fits short says aligned low
