use Rattle.std.proofs.Common.{rules, arith}
use Rattle.nr_trace.proofs.Taken.{one_recorded, recorded_fit}
use Rattle.nr_trace.proofs.reading.lists.push_events.Goals as goal

pub overflow_cast-index : goal.overflow_cast-index
overflow_cast-index c =
    omega (arith, recorded_fit _ _ _ _ _ _ _ c.requires.whole.0 c.loop-k.invariant c.requires.whole.1 c.requires.whole.2)

pub loop-k-preserved : goal.loop-k-preserved
loop-k-preserved c =
    one_recorded _ _ _ _ _ _ _ _ c.in-Some.event c.split_at.result.0.now c.split_at.result.1.now c.loop-k.invariant c.in-Some.ensures
    c.in_ok-push-in-Some.ensures.items (search rules)
