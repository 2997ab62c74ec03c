use Rattle.audit_readers.specs.inside.Begun.{IsBegun}
use Rattle.audit_readers.proofs.chain.pages.feed_first.Given as goal

abbrev pub invariant-loop-room : goal.invariant-loop-room
invariant-loop-room g l = IsBegun (g.R.Read.remaining l.initial.reader) (g.R.Read.remaining l.reader) l.first l.room

abbrev pub decreases-loop-room : goal.decreases-loop-room
decreases-loop-room g l = l.room
