use Rattle.std.proofs.Common.{◌≡◌}
use Rattle.std.specs.List.{flat_map}
use Rattle.nr_record.proofs.Gathering.{IsGathered}
use Rattle.nr_record.proofs.ending.gather.Given as goal

abbrev pub invariant-loop-pen : goal.invariant-loop-pen
invariant-loop-pen l =
    (goal.iterator-loop-pen).can_next l.pen-iterator
    × (goal.iterator-loop-pen).is_finite l.pen-iterator
    × (l.seat.table_id ≡ l.fn.clock.word)
    × IsGathered l.fn.pens.items l.pen-iterator.rest.items l.seat.me.0 (flat_map (λ made. made.items) l.notes.items)
