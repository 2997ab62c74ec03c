use Rattle.vs_space.proofs.Descents.{IsOnPath}
use Rattle.vs_space.proofs.tables.Tables.descend_all.Given as goal

abbrev pub invariant-loop-level : goal.invariant-loop-level
invariant-loop-level g l = IsOnPath l.fn.depth l.self.memory l.root l.address l.lowest l.level l.number l.path

abbrev pub decreases-loop-level : goal.decreases-loop-level
decreases-loop-level g l = l.level
