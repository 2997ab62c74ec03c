-- What the touches and the releases of a segment are compared with. No public clause cites this file.
use Rattle.std.specs.Prelude.{◌≡◌, length, Option}
use Rattle.vs_types.specs.Space.{Space, IsSpace}
use Rattle.nr_trace.specs.Orders.{space_from}
use Rattle.nr_trace.specs.Recording.{Recording}
use Rattle.nr_trace.specs.Run.{Run}
use Rattle.nr_touch.specs.Tails.{GoesOn}
use Rattle.nr_touch.specs.inside.Changes.{AreChanges}
use Rattle.nr_touch.specs.inside.Columns.{AreColumns}
use Rattle.nr_touch.specs.inside.Earlier.{AreOfRun}
use Rattle.nr_touch.specs.inside.Levels.{left_in, IsLadder}
use Rattle.nr_touch.specs.declared.touches.joined.Joined.{Joined}

-- its columns are such, and its space is one
pub record IsBuilt (joined : Joined) : Type 0 where
  pub own : AreColumns joined.history
  pub earlier : IsLadder joined.earlier.items
  pub is_space : IsSpace joined.space.depth joined.space.space

-- a segment that it is of, which goes on behind a run
pub record Behind (joined : Joined) : Type 0 where
  pub before : Option Run
  pub start : Space
  pub segment : Recording
  pub goes_on : GoesOn before segment start
  pub own : AreChanges start segment joined.history.changes.items
  pub earlier : AreOfRun before (left_in joined.earlier.items)
  pub space : joined.space.space ≡ space_from start segment segment.log
  pub places : joined.places ≡ length segment.log
