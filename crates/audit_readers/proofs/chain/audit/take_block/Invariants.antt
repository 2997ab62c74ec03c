use Rattle.std.proofs.Common.{length, Option}
use Rattle.nr_trace.specs.Run.{Run}
use Rattle.nr_chain.specs.Fed.{IsKeptOf}
use Rattle.audit_readers.specs.inside.Going.{IsShort, IsUnderWay}
use Rattle.audit_readers.proofs.chain.audit.take_block.Given as goal

-- how far the block is taken, behind whatever run the chain had come to
abbrev pub invariant-segments : goal.invariant-segments
invariant-segments g l = (run : Option Run) → IsKeptOf run l.fn.begun.kept → IsShort run l.fn.begun.bytes
    → IsUnderWay run l.style l.fn.begun l.fn.right l.fn.block l.chain l.number l.rest (g.W.Write.contents l.initial.writer)
    (g.W.Write.contents l.writer) l.fn.counted l.totals

abbrev pub decreases-segments : goal.decreases-segments
decreases-segments g l = length l.rest
