use Rattle.nr_trace.proofs.Framed.{next_put}
use Rattle.nr_trace.proofs.writing.dumps.put_dumps.Goals as goal

pub loop-held-preserved : goal.loop-held-preserved
loop-held-preserved c =
    next_put c.args.dumps.now c.loop-held.held-index c.held-item.result _ c.loop-held.out.items _ c.loop-held-test.true c.held-item.is c.loop-held.invariant
    c.in_ok-put_dump.ensures
