use Rattle.std.proofs.Common.{sym, ap}
use Rattle.std.specs.Prelude.{slice_index}
use Rattle.vs_space.proofs.Meets.{ended}
use Rattle.vs_space.proofs.space.Space.unmap.Goals as goal

pub unmap_at-requires-clause-ended : goal.unmap_at-requires-clause-ended
unmap_at-requires-clause-ended g c =
    let end = c.descend-level.ensures in
    ended c.self.view_is c.self.invariant.0 c.in-1.is end.descent (ap (slice_index c.descend-level.result.path) (sym c.in-1.is)) end.written

pub unmap_at-requires-in-2-clause-ended : goal.unmap_at-requires-in-2-clause-ended
unmap_at-requires-in-2-clause-ended g c =
    let end = c.descend-level.ensures in
    ended c.self.view_is c.self.invariant.0 c.in-2.is end.descent (ap (slice_index c.descend-level.result.path) (sym c.in-2.is)) end.written

pub unmap_at-requires-in-3-clause-ended : goal.unmap_at-requires-in-3-clause-ended
unmap_at-requires-in-3-clause-ended g c =
    let end = c.descend-level.ensures in
    ended c.self.view_is c.self.invariant.0 c.in-3.is end.descent (ap (slice_index c.descend-level.result.path) (sym c.in-3.is)) end.written
