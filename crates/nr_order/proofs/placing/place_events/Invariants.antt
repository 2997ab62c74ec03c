use Rattle.std.proofs.Common.{◌≡◌, ℕ, List, take, map}
use Rattle.nr_order.specs.WithOrder.{placed_by}
use Rattle.nr_order.specs.inside.Counted.{AreCounted}
use Rattle.nr_order.proofs.placing.place_events.Given as goal

abbrev pub invariant-loop-event : goal.invariant-loop-event
invariant-loop-event l = (order : List ℕ) → AreCounted l.trace order l.counts
    → l.events.items ≡ map (placed_by l.trace order) (take l.event-index l.trace.events)
