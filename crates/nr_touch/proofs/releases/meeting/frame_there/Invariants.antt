use Rattle.std.proofs.Common.{◌+◌, ◌*◌, ◌-◌, ◌≤◌}
use Rattle.nr_touch.specs.inside.Joined.{Behind}
use Rattle.nr_touch.specs.inside.Reached.{LeadsSo}
use Rattle.nr_touch.proofs.releases.meeting.frame_there.Given as goal

abbrev pub invariant-loop-frame : goal.invariant-loop-frame
invariant-loop-frame l = record {
  has : l.release.phys ≤ l.page.phys + l.frame * 4096;
  none : (b : Behind l.joined) → (leads : LeadsSo b l.release l.page) → l.frame ≤ leads.frame;
}

abbrev pub decreases-loop-frame : goal.decreases-loop-frame
decreases-loop-frame l = l.end - l.frame
