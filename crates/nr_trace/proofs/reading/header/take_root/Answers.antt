use Rattle.std.proofs.Common.{arith}
use Rattle.nr_trace.proofs.DumpHeads.{root_taken}
use Rattle.nr_trace.proofs.Taken.{only_front}
use Rattle.nr_trace.proofs.reading.header.take_root.Goals as goal

pub returns : goal.returns
returns c =
    root_taken c.args.parts c.args.numbers c.new-dump.result c.take_u64-root.result.0 c.args.unit.now c.new-dump.ensures.made c.requires.ready
    (omega arith) (only_front c.args.unit.now _ _ c.take_u64-root.ensures c.requires.whole)
