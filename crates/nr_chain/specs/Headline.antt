-- What a chain is right with.
use Rattle.std.specs.Prelude.{◌≡◌, ℕ, ◌+◌, List, [], ◌∷◌, ◌++◌, length, map, All, Option, None, Some, ⊤}
use Rattle.vs_types.specs.Space.{no_pages, IsSpace, Space}
use Rattle.vs_types.specs.declared.addresses.depth.Depth.{Depth}
use Rattle.vs_walk.specs.Dump.{Image}
use Rattle.vs_walk.specs.Walk.{TranslatesAs}
use Rattle.nr_trace.specs.Recording.{Recording}
use Rattle.nr_trace.specs.Calls.{IsWellFormedHistory}
use Rattle.nr_touch.specs.Releases.{IsWrongRelease}
use Rattle.nr_touch.specs.Touches.{touch_behind, IsRightTouch}
use Rattle.nr_touch.specs.declared.releases.release.Release.{Release}
use Rattle.nr_touch.specs.declared.touches.touch.Touch.{Touch}
use Rattle.nr_audit.specs.Releases.{HasRelease}
use Rattle.nr_audit.specs.Touches.{HasTouch}
use Rattle.nr_chain.specs.Bytes.{SpellsChain}
use Rattle.nr_chain.specs.Joined.{Segment, joined}
use Rattle.nr_chain.specs.Run.{space_behind, IsRightRun}

-- the recordings of some segments
abbrev pub traces : List Segment → List Recording
traces segments = map (λ segment. segment.trace) segments

-- a run begins with the space as which its start translates, or with no pages where it has none
abbrev pub BeginsIn : Depth → Option Image → Space → Type 0
BeginsIn depth None space = space ≡ no_pages
BeginsIn depth (Some start) space = TranslatesAs depth start.frames start.root space

-- a segment goes on in a space as which its start translates, where it has one
abbrev pub GoesOnIn : Depth → Option Image → Space → Type 0
GoesOnIn depth None space = ⊤
GoesOnIn depth (Some start) space = TranslatesAs depth start.frames start.root space

-- how many events some segments have, and how many places their logs
abbrev pub events_in : List Segment → ℕ
events_in [] = 0
events_in (segment ∷ more) = length segment.trace.events + events_in more

abbrev pub places_in : List Segment → ℕ
places_in [] = 0
places_in (segment ∷ more) = length segment.trace.log + places_in more

-- the answered touches of a segment are right in a run that begins with this space, where the segment comes behind so many events and places: at
-- a cut all replicas have caught up
abbrev pub HasRightTouchesIn : Space → Recording → ℕ → ℕ → Recording → Type 0
HasRightTouchesIn start run events places segment =
    (touch : Touch) → HasTouch segment touch → IsRightTouch start run (touch_behind events places touch)

-- a release behind so many events
abbrev pub release_behind : ℕ → Release → Release
release_behind events release = record release { made = events + release.made }

-- no release of the segment is wrong in the run
abbrev pub HasRightReleasesIn : Space → Recording → ℕ → Recording → Type 0
HasRightReleasesIn start run events segment =
    (release : Release) → HasRelease segment release → IsWrongRelease None start run (release_behind events release) → ⊥

-- the bytes are right with these orders: they spell one chain of segments. All have one layout, and the events of each are a well-formed
-- history. Each segment behind the first goes on in the space after all updates of the segments before it. For the one run that they are,
-- from the space on in which the first begins, this holds. All answered updates and reads and some unanswered updates are in the orders,
-- one after the other, each once. A call answered before another was made comes first. Each answer is that of one sequential address space.
-- Each dump translates every address as that space does after all updates of the segments before its own and some of its own. Each answered
-- touch was answered as after a prefix that is allowed for its address, or faults by a table that lags. And no memory is given
-- away while an access that begins then could reach it; one that began before may
pub record IsRightChain (bytes : List ℕ) (orders : List (List ℕ)) : Type 0 where
  pub first : Segment
  pub more : List Segment
  pub spelled : SpellsChain bytes first.trace (traces more)
  pub no_other : (other : Recording) (others : List Recording) → SpellsChain bytes other others → other ∷ others ≡ traces (first ∷ more)
  pub ordered : orders ≡ map (λ segment. segment.order) (first ∷ more)
  pub layouts : All (λ segment. segment.trace.layout ≡ first.trace.layout) more
  pub histories : All (λ segment. IsWellFormedHistory segment.trace) (first ∷ more)
  pub start : Space
  pub is_space : IsSpace first.trace.layout.depth start
  pub begins : BeginsIn first.trace.layout.depth first.trace.start start
  pub goes_on : (front rest : List Segment) (next : Segment) → more ≡ front ++ next ∷ rest
      → GoesOnIn first.trace.layout.depth next.trace.start (space_behind start (joined first front))
  pub run : IsRightRun start first more
  pub touches : (front rest : List Segment) (segment : Segment) → first ∷ more ≡ front ++ segment ∷ rest
      → HasRightTouchesIn start (joined first more).trace (events_in front) (places_in front) segment.trace
  pub releases : (front rest : List Segment) (segment : Segment) → first ∷ more ≡ front ++ segment ∷ rest
      → HasRightReleasesIn start (joined first more).trace (events_in front) segment.trace
