use Rattle.audit_readers.proofs.Inputs.{IsFed}
use Rattle.audit_readers.proofs.unit_input.feed_blocks.Given as goal

abbrev pub invariant-loop-room : goal.invariant-loop-room
invariant-loop-room g l = IsFed (g.R.Read.remaining l.initial.reader) (g.R.Read.remaining l.reader) l.feed l.room

abbrev pub decreases-loop-room : goal.decreases-loop-room
decreases-loop-room g l = l.room
