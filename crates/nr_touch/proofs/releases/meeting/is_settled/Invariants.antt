use Rattle.std.proofs.Common.{ℕ, ◌+◌, ◌*◌, ◌-◌, ◌<◌, ◌≤◌, Contains}
use Rattle.nr_touch.specs.Releases.{HasPhys}
use Rattle.nr_touch.specs.inside.Columns.{Covers}
use Rattle.nr_touch.specs.declared.changes.change.PlacedChange.{PlacedChange}
use Rattle.nr_touch.proofs.releases.meeting.is_settled.Given as goal

abbrev pub invariant-loop-next : goal.invariant-loop-next
invariant-loop-next l = (frame : ℕ) (c : PlacedChange) → frame < l.next → HasPhys l.release (l.page.phys + frame * 4096)
    → Contains l.joined.history.changes.items c → Covers (l.page.base + frame * 4096) c → c.place < l.place → c.made ≤ l.release.made

abbrev pub decreases-loop-next : goal.decreases-loop-next
decreases-loop-next l = l.end - l.next
