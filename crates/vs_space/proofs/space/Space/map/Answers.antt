use Rattle.std.proofs.Common.{sym}
use Rattle.vs_space.proofs.Meets.{met_by}
use Rattle.vs_space.proofs.space.Space.map.Goals as goal

pub add-requires-clause-absent : goal.add-requires-clause-absent
add-requires-clause-absent g c =
    met_by c.self.view_is c.self.invariant.0 c.level-lowest.ensures (sym c.in-Absent.ensures) c.descend-descent.ensures

pub overlapped-requires-clause-ended : goal.overlapped-requires-clause-ended
overlapped-requires-clause-ended g c = (
  c.descend-descent.result.number,
  met_by c.self.view_is c.self.invariant.0 c.level-lowest.ensures (sym c.read_written.ensures) c.descend-descent.ensures,
)

pub returns-in_default : goal.returns-in_default
returns-in_default g c = c.overlapped.ensures
