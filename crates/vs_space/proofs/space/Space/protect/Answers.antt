use Rattle.vs_space.proofs.Meets.{ended}
use Rattle.vs_space.proofs.space.Space.protect.Goals as goal

pub protect_at-requires-clause-ended : goal.protect_at-requires-clause-ended
protect_at-requires-clause-ended g c =
    let end = c.descend-descent.ensures in
    ended c.self.view_is c.self.invariant.0 c.in-1.is end.descent end.last end.written

pub protect_at-requires-in-2-clause-ended : goal.protect_at-requires-in-2-clause-ended
protect_at-requires-in-2-clause-ended g c =
    let end = c.descend-descent.ensures in
    ended c.self.view_is c.self.invariant.0 c.in-2.is end.descent end.last end.written

pub protect_at-requires-in-3-clause-ended : goal.protect_at-requires-in-3-clause-ended
protect_at-requires-in-3-clause-ended g c =
    let end = c.descend-descent.ensures in
    ended c.self.view_is c.self.invariant.0 c.in-3.is end.descent end.last end.written
