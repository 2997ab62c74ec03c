-- Why a right touch is right: what excuses it, if it needs an excuse.
use Rattle.std.specs.Prelude.{◌≡◌, ℕ, ◌<◌, ◌≤◌, ◌⊎◌, List, length, slice_get, Option, None, Some}
use Rattle.vs_types.specs.Space.{Space}
use Rattle.vs_types.specs.declared.requests.answer.Answer.TheVariants as answers
use Rattle.nr_trace.specs.Recording.{Recording}
use Rattle.nr_trace.specs.Joined.{joined_traces}
use Rattle.nr_trace.specs.Run.{Run}
use Rattle.nr_touch.specs.Touches.{touch_behind, ChangesLook, IsAllowedPrefix, IsAnsweredAt, IsAnsweredBefore, IsAnsweredInTime, IsFaultOfLagging, IsMadeAfter}
use Rattle.nr_touch.specs.declared.touches.excuse.Excuse.{Excuse}
use Rattle.nr_touch.specs.declared.touches.excuse.Excuse.TheVariants as excuses
use Rattle.nr_touch.specs.declared.touches.touch.Touch.{Touch}

-- the newest entries that a touch may see: those before the first update that changes how its address looks and was made after it was answered, or all
pub record IsNewestPrefix (start : Space) (trace : Recording) (touch : Touch) (n : ℕ) : Type 0 where
  pub within : n ≤ length trace.log
  pub not_foreseen : (place : ℕ) → ChangesLook start trace touch.address place → IsMadeAfter trace place touch.answered → n ≤ place
  pub most : (n ≡ length trace.log) ⊎ (ChangesLook start trace touch.address n × IsMadeAfter trace n touch.answered)

-- the touch is answered as after these, and may be
abbrev pub IsAnsweredAsNow : Space → Recording → Touch → Type 0
IsAnsweredAsNow start trace touch = (n : ℕ) × IsNewestPrefix start trace touch n × IsAllowedPrefix start trace touch n × IsAnsweredAt start trace touch n

-- entries that have all of the segments before, which are so many, and each update that changes how the address looks and was answered
-- before the touch was made. They have none that changes it and was made after the touch was answered
pub record IsUpToDate (before : ℕ) (start : Space) (trace : Recording) (touch : Touch) (n : ℕ) : Type 0 where
  pub within : n ≤ length trace.log
  pub has_earlier : before ≤ n
  pub has_answered : (place : ℕ) → ChangesLook start trace touch.address place → IsAnsweredBefore trace place touch.made → place < n
  pub not_foreseen : (place : ℕ) → ChangesLook start trace touch.address place → IsMadeAfter trace place touch.answered → n ≤ place

-- the touch is answered as after some of these
abbrev pub IsAnsweredUpToDate : ℕ → Space → Recording → Touch → Type 0
IsAnsweredUpToDate before start trace touch = (n : ℕ) × IsUpToDate before start trace touch n × IsAnsweredAt start trace touch n

-- the touch is answered by a page fault
abbrev pub IsFault : Touch → Type 0
IsFault touch = (code : ℕ) × (touch.answer ≡ answers.Fault code)

-- what excuses a right touch, where the segments before have so many entries. None is needed where it is answered as after the newest entries that it may
-- see. Open: an update of its address is open. Kept: it faults by rights that were kept, and at no moment that has each answered update is it answered so.
-- Lagging: it faults since its replica's table lags
abbrev pub IsExcusedBy : ℕ → Space → Recording → Touch → Excuse → Type 0
IsExcusedBy before start trace touch excuses.None = IsAnsweredAsNow start trace touch
IsExcusedBy before start trace touch excuses.Open =
    IsAnsweredInTime start trace touch × (IsAnsweredAsNow start trace touch → ⊥) × (IsFault touch → IsAnsweredUpToDate before start trace touch)
IsExcusedBy before start trace touch excuses.Kept =
    IsAnsweredInTime start trace touch × (IsAnsweredAsNow start trace touch → ⊥) × IsFault touch × (IsAnsweredUpToDate before start trace touch → ⊥)
IsExcusedBy before start trace touch excuses.Lagging = IsFaultOfLagging start trace touch × (IsAnsweredInTime start trace touch → ⊥)

-- the same of a touch of a segment, behind a run
abbrev pub IsExcusedBehind : Option Run → Space → Recording → Touch → Excuse → Type 0
IsExcusedBehind None start segment touch excuse = IsExcusedBy 0 start segment touch excuse
IsExcusedBehind (Some run) start segment touch excuse =
    IsExcusedBy (length run.trace.log) run.start (joined_traces run.trace segment) (touch_behind (length run.trace.events) (length run.trace.log) touch) excuse

-- each of these touches is right and has this excuse
pub record AreExcusedBy (before : Option Run) (start : Space) (segment : Recording) (touches : List Touch) (list : List Excuse) : Type 0 where
  pub one_each : length list ≡ length touches
  pub each : (index : ℕ) (touch : Touch) (excuse : Excuse) → slice_get touches index ≡ Some touch → slice_get list index ≡ Some excuse
      → IsExcusedBehind before start segment touch excuse
