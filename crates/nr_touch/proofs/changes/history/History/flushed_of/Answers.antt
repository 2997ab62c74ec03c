use Rattle.std.proofs.Common.{sym}
use Rattle.nr_touch.specs.declared.changes.change.PlacedChange.{PlacedChange}
use Rattle.nr_touch.proofs.changes.history.History.flushed_of.Goals as goal

pub returns-else-finds : goal.returns-else-finds
returns-else-finds c =
    rw c.if-finds.false
    (c.past_in-else-finds.ensures (λ (each : PlacedChange). each.answered) (rw (sym c.deref-else-finds.ensures.value) at c.requires.answered))
