-- What a run is right with that was recorded in segments, one after another.
use Rattle.std.specs.Prelude.{◌≡◌, ℕ, ◌<◌, List, [], ◌∷◌, ◌++◌, ⊤, slice_get, Some}
use Rattle.vs_types.specs.Config.{Layout}
use Rattle.vs_types.specs.Space.{Space}
use Rattle.vs_walk.specs.Dump.{Image}
use Rattle.nr_trace.specs.Recording.{IsThere, Recording}
use Rattle.nr_trace.specs.Calls.{Invocation, call_of, IsCall, Response, reply_of, Answers}
use Rattle.nr_trace.specs.Orders.{updates, space_from, recorded_order, HasItsCalls, KeepsPrecedence, HasAnswersFrom, FitsFrom}
use Rattle.nr_trace.specs.Laws.{IsFaultlessFrom}
use Rattle.nr_chain.specs.Joined.{Segment, joined}

-- the events are those of threads that wait for each reply that comes. Every reply answers an earlier call, a call has one reply at most,
-- and of two calls of one thread a reply to the first comes before the second. A thread whose call has none may make others
pub record IsHistory (trace : Recording) : Type 0 where
  pub of_calls : (index : ℕ) (reply : Response) → reply_of trace index ≡ Some reply → (reply.call < index) × IsCall trace reply.call
  pub once : (first second call : ℕ) → Answers trace first call → Answers trace second call → first ≡ second
  pub one_open : (first second index : ℕ) (made next : Invocation) → first < second → call_of trace first ≡ Some made → call_of trace second ≡ Some next
      → made.thread ≡ next.thread → Answers trace index first → index < second

-- every dump that is there fits the order
abbrev pub HasFittingDumpsFrom : Space → Segment → Type 0
HasFittingDumpsFrom start segment = (replica : ℕ) (dump : Image) → slice_get segment.trace.dumps replica ≡ Some dump
    → IsThere dump → FitsFrom start segment.trace segment.order replica dump

-- a segment is right from the space with which it begins, in the words of a trace's headline. But its events are such a history,
-- which need not be a well-formed one, and the updates of its order are its log
pub record IsRightFrom (start : Space) (segment : Segment) : Type 0 where
  pub events : IsHistory segment.trace
  pub members : HasItsCalls segment.trace segment.order
  pub precedence : KeepsPrecedence segment.trace segment.order
  pub answers : HasAnswersFrom start segment.trace segment.order
  pub log : updates segment.trace segment.order ≡ segment.trace.log
  pub dumps : HasFittingDumpsFrom start segment

-- the space after the whole log of a run that begins with a space, and after those of some segments, one after another
abbrev pub space_behind : Space → Segment → Space
space_behind start segment = space_from start segment.trace segment.trace.log

-- the space behind all of the segments, from a start on
abbrev pub space_behind_all : Space → List Segment → Space
space_behind_all start [] = start
space_behind_all start (segment ∷ more) = space_behind_all (space_behind start segment) more

-- each segment has the layout, and is right from the space after those before it
abbrev pub AreRightFrom : Space → Layout → List Segment → Type 0
AreRightFrom start layout [] = ⊤
AreRightFrom start layout (segment ∷ more) =
    (segment.trace.layout ≡ layout) × IsRightFrom start segment × AreRightFrom (space_behind start segment) layout more

-- each has the layout, and no fault from that space, and its order is the one that it records
abbrev pub AreFaultlessFrom : Space → Layout → List Segment → Type 0
AreFaultlessFrom start layout [] = ⊤
AreFaultlessFrom start layout (segment ∷ more) =
    (segment.trace.layout ≡ layout) × IsFaultlessFrom start segment.trace × (segment.order ≡ recorded_order segment.trace)
    × AreFaultlessFrom (space_behind start segment) layout more

-- the run of some segments is right from a space on: of all segments as one run, the events are a history; all its answered calls and
-- some unanswered updates are in the order, each once; a call answered before another was made comes first, in whichever segments
-- they are; each answer is that of one sequential address space; the updates of the order are the log; and each dump translates
-- every address as that space does after all updates of the segments before its own and some of its own
pub record IsRightRun (start : Space) (first : Segment) (more : List Segment) : Type 0 where
  pub events : IsHistory (joined first more).trace
  pub members : HasItsCalls (joined first more).trace (joined first more).order
  pub precedence : KeepsPrecedence (joined first more).trace (joined first more).order
  pub answers : HasAnswersFrom start (joined first more).trace (joined first more).order
  pub log : updates (joined first more).trace (joined first more).order ≡ (joined first more).trace.log
  pub dumps : (front rest : List Segment) → more ≡ front ++ rest → HasFittingDumpsFrom start (joined first front)
