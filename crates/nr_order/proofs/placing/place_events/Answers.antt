use Rattle.nr_order.proofs.PlacedEvents.{placed_more}
use Rattle.nr_order.proofs.placing.place_events.Goals as goal

pub loop-event-preserved : goal.loop-event-preserved
loop-event-preserved c = λ order counted.
    placed_more c.args.trace.now order c.events-event-items.result.now c.loop-event.event-index c.event-item.result c.in-Some.event
    c.loop-event.events.items c.push.new.self.items
    c.events-event-items.ensures.reads c.loop-event-test.true c.event-item.is (c.in-Some.ensures c.args.trace.now order counted)
    (c.loop-event.invariant order counted) c.in_ok-push-in-Some.ensures.items
