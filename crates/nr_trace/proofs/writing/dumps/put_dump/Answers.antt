use Rattle.std.proofs.Common.{arith}
use Rattle.nr_trace.proofs.Framed.{dump_put, few_fit}
use Rattle.nr_trace.proofs.writing.dumps.put_dump.Goals as goal

pub overflow_cast-head : goal.overflow_cast-head
overflow_cast-head c = omega (arith, few_fit c.args.held.now c.count-frames.result c.count-frames.ensures.is_dump c.count-frames.ensures.reads)

pub returns : goal.returns
returns c =
    dump_put c.args.held.now c.applied.result c.count-frames.result c.root.result c.args.out.now.items c.put_dump_head.new.out.items
    c.put_frames.new.out.items c.count-frames.ensures.reads c.applied.ensures c.root.ensures c.in_ok-put_dump_head.ensures c.in_ok-put_frames.ensures
