-- What excuses a touch of a segment, by what the segment says and what was left before it. No public clause cites this file.
use Rattle.std.specs.Prelude.{◌≡◌, ◌⊎◌, ℕ, List, length, slice_get, Option, Some}
use Rattle.vs_types.specs.Space.{Space}
use Rattle.nr_trace.specs.Recording.{Recording}
use Rattle.nr_trace.specs.Run.{Run}
use Rattle.nr_touch.specs.Excuses.{IsAnsweredAsNow, IsAnsweredUpToDate, IsExcusedBehind, IsFault}
use Rattle.nr_touch.specs.Touches.{IsAnsweredInTime, IsFaultOfLagging}
use Rattle.nr_touch.specs.declared.touches.excuse.Excuse.{Excuse}
use Rattle.nr_touch.specs.declared.touches.excuse.Excuse.TheVariants as excuses
use Rattle.nr_touch.specs.declared.touches.touch.Touch.{Touch}

-- what excuses a touch in time that isn't answered as its address looks now: an open update, or, where it is a fault that misses an answered update of its
-- segment, kept rights
abbrev pub IsOpenOrKept : Space → Recording → Touch → Excuse → Type 0
IsOpenOrKept start segment touch excuses.Open = IsFault touch → IsAnsweredUpToDate 0 start segment touch
IsOpenOrKept start segment touch excuses.Kept = IsFault touch × (IsAnsweredUpToDate 0 start segment touch → ⊥)
IsOpenOrKept start segment touch excuse = ⊥

-- what excuses a touch that may also be answered by what was left before its segment
abbrev pub IsExcusedWith : Type 0 → Space → Recording → Touch → Excuse → Type 0
IsExcusedWith Left start segment touch excuses.None = IsAnsweredAsNow start segment touch
IsExcusedWith Left start segment touch excuses.Lagging = IsFaultOfLagging start segment touch × ((IsAnsweredInTime start segment touch ⊎ Left) → ⊥)
IsExcusedWith Left start segment touch excuse =
    (IsAnsweredInTime start segment touch ⊎ Left) × (IsAnsweredAsNow start segment touch → ⊥) × IsOpenOrKept start segment touch excuse

-- so many touches, the first ones, are right and have these excuses
pub record AreExcusedBelow (before : Option Run) (start : Space) (segment : Recording) (touches : List Touch) (list : List Excuse) (end : ℕ) : Type 0 where
  pub one_each : length list ≡ end
  pub each : (index : ℕ) (touch : Touch) (excuse : Excuse) → slice_get touches index ≡ Some touch → slice_get list index ≡ Some excuse
      → IsExcusedBehind before start segment touch excuse
