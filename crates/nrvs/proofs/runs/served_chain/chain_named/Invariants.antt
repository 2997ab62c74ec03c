use Rattle.nrvs.proofs.ServedBlocks.{IsReading}
use Rattle.nrvs.proofs.runs.served_chain.chain_named.Given as goal

abbrev pub invariant-loop-room : goal.invariant-loop-room
invariant-loop-room g l =
    IsReading l.setup l.chain (g.R.Read.remaining l.initial.reader) (g.R.Read.remaining l.reader) (g.W.Write.contents l.initial.writer)
    (g.W.Write.contents l.writer) l.run l.portion l.room

abbrev pub decreases-loop-room : goal.decreases-loop-room
decreases-loop-room g l = l.room
