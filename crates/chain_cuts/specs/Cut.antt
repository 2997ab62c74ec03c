-- Cuts of a run in two.
use Rattle.std.specs.Prelude.{◌≡◌, ◌↔◌, ℕ, ◌<◌, List, [], ◌∷◌, ⊤, length, map, slice_get, Option, None, Some, IfSome}
use Rattle.vs_types.specs.Config.{Layout}
use Rattle.vs_walk.specs.Dump.{Image}
use Rattle.nr_trace.specs.Recording.{IsThere, Recording}
use Rattle.nr_trace.specs.Calls.{Invocation, call_of, Answers}
use Rattle.nr_trace.specs.Orders.{recorded_order}
use Rattle.nr_touch.specs.Touches.{IsFaultOfNone}
use Rattle.nr_touch.specs.declared.touches.touch.Touch.{Touch}
use Rattle.nr_audit.specs.Faults.{IsSoundAfter}
use Rattle.nr_audit.specs.Touches.{known_at, HasTouch}
use Rattle.nr_trace.specs.Run.{Run, IsOrderly}
use Rattle.nr_audit.specs.Segments.{run_after}
use Rattle.nr_chain.specs.Joined.{Segment, both}

-- a run may be cut between the two: a thread with a call open at the cut makes none behind it, and the log before it has no calls but those before it
pub record IsCutAt (first second : Recording) : Type 0 where
  pub waits : (call next : ℕ) (made other : Invocation) → call_of first call ≡ Some made → call_of second next ≡ Some other → made.thread ≡ other.thread
      → (index : ℕ) × Answers first index call
  pub own : (place call : ℕ) → slice_get first.log place ≡ Some call → call < length first.events

-- a segment of this layout may come behind the run, if there is one: that is orderly, and laid out so
abbrev pub MayCome : Option Run → Layout → Type 0
MayCome before layout = IfSome before (λ run. IsOrderly run.trace × (layout ≡ run.trace.layout))

-- the run without its dumps
abbrev pub without_dumps : Recording → Recording
without_dumps trace = record trace { dumps = [] }

-- no dump of the run is there
abbrev pub HasNoDumps : Recording → Type 0
HasNoDumps trace = (replica : ℕ) (dump : Image) → slice_get trace.dumps replica ≡ Some dump → IsThere dump → ⊥

-- the two are the same run, but for dumps that are not there
pub record IsSameRun (first second : Recording) : Type 0 where
  pub same : without_dumps first ≡ without_dumps second
  pub dumps : (replica : ℕ) (dump : Image) → IsThere dump
      → (slice_get first.dumps replica ≡ Some dump) ↔ (slice_get second.dumps replica ≡ Some dump)

-- the segments of a run that is cut so, and of which dumps are taken at its end
abbrev pub AreCut : Segment → List Segment → Type 0
AreCut first [] = ⊤
AreCut first (next ∷ more) = IsCutAt first.trace next.trace × HasNoDumps first.trace × AreCut (both first next) more

-- the replica of each touch of the second run that faults since no page has its address was known at the cut to have applied the whole log of the first
abbrev pub HaveCaughtUp : Recording → Recording → Type 0
HaveCaughtUp first second = (touch : Touch) (made : Invocation) → HasTouch second touch → IsFaultOfNone touch → call_of second touch.made ≡ Some made
    → known_at first made.replica (length first.events) ≡ length first.log

-- so it is at each cut of several
abbrev pub HaveAllCaughtUp : Segment → List Segment → Type 0
HaveAllCaughtUp first [] = ⊤
HaveAllCaughtUp first (next ∷ more) = HaveCaughtUp first.trace next.trace × HaveAllCaughtUp (both first next) more

-- each segment has the layout, and its order is the one that it records
abbrev pub AreRecorded : Layout → List Segment → Type 0
AreRecorded layout [] = ⊤
AreRecorded layout (segment ∷ more) = (segment.trace.layout ≡ layout) × (segment.order ≡ recorded_order segment.trace) × AreRecorded layout more

-- none of the segments has a start of its own
abbrev pub HaveNoStarts : List Segment → Type 0
HaveNoStarts [] = ⊤
HaveNoStarts (segment ∷ more) = (segment.trace.start ≡ None) × HaveNoStarts more

-- each segment is sound behind those before it
abbrev pub AreSoundAfter : Option Run → List Segment → Type 0
AreSoundAfter before [] = ⊤
AreSoundAfter before (segment ∷ more) = IsSoundAfter before segment.trace × AreSoundAfter (Some (run_after before segment.trace)) more

-- the orders of some segments
abbrev pub orders_of : List Segment → List (List ℕ)
orders_of segments = map (λ segment. segment.order) segments
