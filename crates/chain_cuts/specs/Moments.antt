-- The moments that show a touch to be right. A moment is a number of entries of the log.
use Rattle.std.specs.Prelude.{◌≡◌, ℕ, ◌+◌, length, min, Option, Some, None, ⊤}
use Rattle.vs_types.specs.Space.{Space}
use Rattle.nr_trace.specs.Recording.{Recording}
use Rattle.nr_trace.specs.Calls.{call_of, Invocation}
use Rattle.nr_trace.specs.Joined.{joined_traces}
use Rattle.nr_trace.specs.Run.{Run}
use Rattle.nr_touch.specs.Touches.{touch_behind, IsAllowedPrefix, IsAnsweredAt, IsFaultOfNone, IsLagging}
use Rattle.nr_touch.specs.declared.touches.touch.Touch.{Touch}
use Rattle.nr_audit.specs.Touches.{known_at, known_when, HasTouch}

-- when a touch was answered; or when a table lagged that it faults by
pub data Moments : Type 0 where
  InTime : (at : ℕ) → Moments
  Lagging : (at : ℕ) → Moments

-- the moments show the touch to be right
abbrev pub Show : Space → Recording → Touch → Moments → Type 0
Show start trace touch (InTime at) = IsAllowedPrefix start trace touch at × IsAnsweredAt start trace touch at
Show start trace touch (Lagging at) = IsFaultOfNone touch × IsLagging start trace touch at

-- behind a run they are moments of the run with the segment
abbrev pub ShowBehind : Option Run → Space → Recording → Touch → Moments → Type 0
ShowBehind None start segment touch moments = Show start segment touch moments
ShowBehind (Some run) start segment touch moments =
    Show run.start (joined_traces run.trace segment) (touch_behind (length run.trace.events) (length run.trace.log) touch) moments

-- the moments, of which one past a cut counts as the cut
abbrev pub until_cut : ℕ → Moments → Moments
until_cut cut (InTime at) = InTime (min cut at)
until_cut cut (Lagging at) = Lagging (min cut at)

-- a touch of the second run as a touch of both as one: its events come behind those of the first, and its replica was known to have applied what is
-- known by the replies of both
abbrev pub touch_in_both : Recording → Recording → Touch → Touch
touch_in_both first second touch = record touch {
  made = length first.events + touch.made;
  answered = length first.events + touch.answered;
  known = known_when (joined_traces first second) (length first.events + touch.made);
}

-- the touch of both is one of the second run
abbrev pub IsOfSecond : Recording → Recording → Touch → Type 0
IsOfSecond first second touch = (mine : Touch) × HasTouch second mine × (touch_in_both first second mine ≡ touch)

-- if the moment is of a table that lagged, its replica was known at the cut to have applied the whole log of the first run
abbrev pub HadCaughtUp : Recording → Recording → Touch → Moments → Type 0
HadCaughtUp first second touch (InTime at) = ⊤
HadCaughtUp first second touch (Lagging at) = (made : Invocation) → call_of second touch.made ≡ Some made
    → known_at first made.replica (length first.events) ≡ length first.log
