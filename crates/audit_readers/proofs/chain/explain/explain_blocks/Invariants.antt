use Rattle.audit_readers.proofs.Explaining.{IsExplaining}
use Rattle.audit_readers.proofs.chain.explain.explain_blocks.Given as goal

abbrev pub invariant-loop-room : goal.invariant-loop-room
invariant-loop-room g l = IsExplaining (g.R.Read.remaining l.initial.reader) (g.R.Read.remaining l.reader) l.chain l.room

abbrev pub decreases-loop-room : goal.decreases-loop-room
decreases-loop-room g l = l.room
