use Rattle.audit_readers.specs.inside.Judged.{totals_begun}
use Rattle.audit_readers.proofs.Reading.{IsReading}
use Rattle.audit_readers.proofs.chain.audit.judge_blocks.Given as goal

abbrev pub invariant-loop-room : goal.invariant-loop-room
invariant-loop-room g l = IsReading l.style (g.R.Read.remaining l.initial.reader) (g.R.Read.remaining l.reader) (g.W.Write.contents l.initial.writer)
    (g.W.Write.contents l.writer) l.chain l.number l.room (totals_begun l.counts) l.totals

abbrev pub decreases-loop-room : goal.decreases-loop-room
decreases-loop-room g l = l.room
