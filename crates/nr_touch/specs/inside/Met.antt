-- The pages that changes are of, and how a release finds them. No public clause cites this file.
use Rattle.std.specs.Prelude.{◌≡◌, ℕ, ◌≤◌, ◌⊎◌, List, [], length, Contains}
use Rattle.vs_types.specs.Space.{Holds}
use Rattle.vs_types.specs.declared.addresses.page.Page.{Page}
use Rattle.nr_touch.specs.inside.Indexed.{HavePresent, IsIndexed}
use Rattle.nr_touch.specs.inside.Joined.{Behind}
use Rattle.nr_touch.specs.inside.Lives.{AreLives, HaveRows}
use Rattle.nr_touch.specs.inside.Reached.{AreSeen, IsOpenThere, LeadsBy, LeadsSo}
use Rattle.nr_touch.specs.inside.Stays.{AreRoomy, AreStretches, HaveStays}
use Rattle.nr_touch.specs.declared.releases.changed.Changed.{Changed}
use Rattle.nr_touch.specs.declared.releases.index.Index.{Index}
use Rattle.nr_touch.specs.declared.releases.release.Release.{Release}
use Rattle.nr_touch.specs.declared.releases.seen.Seen.{Seen}
use Rattle.nr_touch.specs.declared.releases.stays.Stay.{Stay}
use Rattle.nr_touch.specs.declared.touches.joined.Joined.{Joined}

-- the stays have rows in the blocks of their pages, and the rows have stretches
pub record AreRows (changed : Changed) : Type 0 where
  pub roomy : AreRoomy changed.stays.items
  pub lives : AreLives changed.lives
  pub rows : HaveRows changed.stays.items changed.lives
  pub stretches : AreStretches changed.stays.items changed.lives.rows.items changed.stretches.since.items changed.stretches.until.items
      (length changed.lives.rows.items)

-- the pages that a touch may find by the segment alone have their stays: of these pages those that are there after the log, and those before the
-- changes of the segment
pub record HasSeen (joined : Joined) (present : List Page) (changed : Changed) : Type 0 where
  pub seen : List Seen
  pub are : AreSeen joined [] present seen
  pub stays : HaveStays joined.history.changes.items seen changed.stays.items

-- so of the pages of the space at whose base a change begins
pub record IsMetBy (joined : Joined) (changed : Changed) : Type 0 where
  pub present : List Page
  pub all : HavePresent joined present
  pub seen : HasSeen joined present changed
  pub rows : AreRows changed

-- a stay of the page has the event of the release, and the page leads there as after no more entries than the stay has
pub record IsStaying {joined : Joined} (b : Behind joined) (changed : Changed) (release : Release) (page : Page) : Type 0 where
  pub stay : Stay
  pub has : Contains changed.stays.items stay
  pub same : stay.page ≡ page
  pub from : stay.from ≤ release.made
  pub until : release.made ≤ stay.until
  pub leads : LeadsBy b release page stay.place

-- a page that leads there is in the index, or has such a stay, or some frame of it was left to look so
abbrev pub LeadsFrom : {joined : Joined} → Behind joined → Index → Changed → Release → Page → Type 0
LeadsFrom {joined} b quiet changed release page = (Holds joined.space.space page × IsIndexed quiet page × LeadsSo b release page)
    ⊎ (IsStaying b changed release page ⊎ ((frame : ℕ) × IsOpenThere b release page frame))
