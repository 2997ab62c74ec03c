use Rattle.nrvs.proofs.WholeInput.{IsTakenIn}
use Rattle.nrvs.proofs.runs.script_input.read_blocks.Given as goal

abbrev pub invariant-loop-room : goal.invariant-loop-room
invariant-loop-room g l = IsTakenIn (g.R.Read.remaining l.initial.reader) (g.R.Read.remaining l.reader) l.bytes.items l.room

abbrev pub decreases-loop-room : goal.decreases-loop-room
decreases-loop-room g l = l.room
