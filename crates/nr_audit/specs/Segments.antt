-- What a right segment is, and what it leads to.
use Rattle.std.specs.Prelude.{◌≡◌, ℕ, List, Option, None, Some, option_map, ⊤}
use Rattle.vs_types.specs.Config.{Layout}
use Rattle.vs_types.specs.Space.{Space}
use Rattle.vs_plain.specs.Plain.{BoundedSpace}
use Rattle.nr_trace.specs.Recording.{Recording}
use Rattle.nr_trace.specs.Calls.{IsWellFormedHistory}
use Rattle.nr_trace.specs.Orders.{space_from, HasItsCalls, KeepsPrecedence, HasAnswersFrom}
use Rattle.nr_audit.specs.Headline.{HasDumpsFrom}
use Rattle.nr_trace.specs.Run.{Run, end_of, run_with}
use Rattle.nr_touch.specs.Tails.{IsSoundTail, IsTailOfRun}
use Rattle.nr_audit.specs.Start.{begins_in}
use Rattle.nr_audit.specs.Releases.{HasRightReleases}
use Rattle.nr_audit.specs.Touches.{HasRightTouches}
use Rattle.nr_audit.specs.declared.histories.past.Past.{Past}

-- the run with a segment more, which begins in the space after it
abbrev pub run_after : Option Run → Recording → Run
run_after before segment = run_with before (begins_in before segment) segment

-- the space after the whole log of a segment behind a run
abbrev pub last_space : Option Run → Recording → Space
last_space before segment = space_from (begins_in before segment) segment segment.log

-- the space that is kept of the segment before, if there is one
abbrev pub pages_before : Option BoundedSpace → Option Space
pages_before before = option_map (λ kept. kept.space) before

-- the space before fits the layout: it has its depth and its limit
pub record FitsLayout (layout : Layout) (before : BoundedSpace) : Type 0 where
  pub depth : before.depth ≡ layout.depth
  pub limit : before.limit ≡ layout.tables

-- what is kept of a run: the space after it, and how addresses may still be found to look otherwise
pub record IsKept (run : Run) (past : Past) : Type 0 where
  pub space : past.space.space ≡ end_of run
  pub tail : IsTailOfRun run past.tail

-- what is kept can be gone on with under this layout
pub record FitsPast (layout : Layout) (past : Past) : Type 0 where
  pub space : FitsLayout layout past.space
  pub tail : IsSoundTail past.tail

-- a segment comes behind a run of which this is kept, and is laid out as that; or it is the first one
abbrev pub IsBehind : Option Run → Option Past → Recording → Type 0
IsBehind None None segment = ⊤
IsBehind (Some run) (Some past) segment = IsKept run past × (segment.layout ≡ run.trace.layout)
IsBehind before past segment = ⊥

-- the segment is right with the order, from the space on with which it begins: its events are a well-formed history; all its answered
-- updates and reads and some unanswered updates are in the order, each once; a call answered before another was made comes first; each
-- answer is that of one sequential address space; each dump that is there translates every address as that space does after some of
-- the updates; every answered touch is answered as after a prefix that is allowed for its address, or faults by a table that
-- lags; and no memory is given away while an access that begins then could reach it: one that began before may
pub record IsRightAfter (before : Option Run) (segment : Recording) (order : List ℕ) : Type 0 where
  pub events : IsWellFormedHistory segment
  pub members : HasItsCalls segment order
  pub precedence : KeepsPrecedence segment order
  pub answers : HasAnswersFrom (begins_in before segment) segment order
  pub dumps : HasDumpsFrom (begins_in before segment) segment order
  pub touches : HasRightTouches before (begins_in before segment) segment
  pub releases : HasRightReleases before (begins_in before segment) segment
