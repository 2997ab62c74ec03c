-- What is counted of a right segment: the calls and touches that met another call, and what excuses its touches.
use Rattle.std.specs.Prelude.{◌≡◌, ◌==◌, ◌&&◌, ◌⊎◌, ◌<◌, ◌≤◌, ◌+◌, ◌-◌, ◌^◌, ℕ, max, min, Bool, true, false, List, length, slice_get, count_by, Option, Some}
use Rattle.std.specs.List.{AllPairs}
use Rattle.std.specs.Option.{option_map_or}
use Rattle.vs_types.specs.Space.{Space}
use Rattle.nr_trace.specs.Recording.{Recording}
use Rattle.nr_trace.specs.Calls.{call_of}
use Rattle.nr_trace.specs.Orders.{below}
use Rattle.nr_trace.specs.Run.{Run}
use Rattle.nr_touch.specs.Beside.{beside}
use Rattle.nr_touch.specs.Excuses.{AreExcusedBy}
use Rattle.nr_touch.specs.declared.touches.excuse.Excuse.{Excuse}
use Rattle.nr_touch.specs.declared.touches.excuse.Excuse.TheVariants as excuses
use Rattle.nr_touch.specs.declared.touches.touch.Touch.{Touch}
use Rattle.nr_audit.specs.Meetings.{overlapping}
use Rattle.nr_audit.specs.Touches.{HasTouch}
use Rattle.nr_audit.specs.declared.histories.met.Met.{Met}
use Rattle.nr_audit.specs.declared.histories.met.Totals.{Totals}

-- all answered touches of a segment, by the events at which they are made
pub record AreTouchesOf (segment : Recording) (touches : List Touch) : Type 0 where
  pub each : (index : ℕ) (touch : Touch) → slice_get touches index ≡ Some touch → HasTouch segment touch
  pub all : (touch : Touch) → HasTouch segment touch → (index : ℕ) × (slice_get touches index ≡ Some touch)
  pub rising : AllPairs (λ first second. first.made < second.made) touches

-- whether an excuse is that of an open update
abbrev pub is_open : Excuse → Bool
is_open excuses.None = false
is_open excuses.Open = true
is_open excuses.Kept = false
is_open excuses.Lagging = false

-- whether it is that of rights that were kept
abbrev pub is_kept : Excuse → Bool
is_kept excuses.None = false
is_kept excuses.Open = false
is_kept excuses.Kept = true
is_kept excuses.Lagging = false

-- whether it is that of a table that lags
abbrev pub is_lagging : Excuse → Bool
is_lagging excuses.None = false
is_lagging excuses.Open = false
is_lagging excuses.Kept = false
is_lagging excuses.Lagging = true

-- whether it is one of the latter two: the touch faults late
abbrev pub is_late : Excuse → Bool
is_late excuses.None = false
is_late excuses.Open = false
is_late excuses.Kept = true
is_late excuses.Lagging = true

-- the thread of a call
abbrev pub thread_at : Recording → ℕ → ℕ
thread_at segment call = option_map_or (λ made. made.thread) (call_of segment call) 0

-- whether a touch is made by this thread at this address
abbrev pub is_by : Recording → ℕ → ℕ → Touch → Bool
is_by segment thread address touch = (thread_at segment touch.made == thread) && (touch.address == address)

-- whether the touch of an index is, and faults late
abbrev pub is_late_by : Recording → List Touch → List Excuse → ℕ → ℕ → ℕ → Bool
is_late_by segment touches list thread address index =
    option_map_or is_late (slice_get list index) false && option_map_or (is_by segment thread address) (slice_get touches index) false

-- how many of the first touches, this many, do
abbrev pub late_by : Recording → List Touch → List Excuse → ℕ → ℕ → ℕ → ℕ
late_by segment touches list thread address end = count_by (is_late_by segment touches list thread address) (below end)

-- the most of these that are made by one thread at one address
pub record IsMostLate (segment : Recording) (touches : List Touch) (list : List Excuse) (end most : ℕ) : Type 0 where
  pub all : (thread address : ℕ) → late_by segment touches list thread address end ≤ most
  pub some : (most ≡ 0) ⊎ ((thread : ℕ) × (address : ℕ) × (late_by segment touches list thread address end ≡ most))

-- so much is counted of a segment behind a run, where it begins with this space. These are the calls that overlap another one, the touches
-- beside updates, how many touches each excuse has, and the most of those that fault late by one thread at one address
pub record HasMet (before : Option Run) (start : Space) (segment : Recording) (met : Met) : Type 0 where
  pub meetings : met.overlapping ≡ overlapping segment
  pub near : met.beside ≡ beside start segment
  pub touches : List Touch
  pub are : AreTouchesOf segment touches
  pub list : List Excuse
  pub excused : AreExcusedBy before start segment touches list
  pub since_open : met.since_open ≡ count_by is_open list
  pub since_kept : met.since_kept ≡ count_by is_kept list
  pub since_lagging : met.since_lagging ≡ count_by is_lagging list
  pub repeated : IsMostLate segment touches list (length touches) met.repeated

-- ---- of several segments

-- a sum, but no more than 2 ^ 64 - 1
abbrev pub sum_up : ℕ → ℕ → ℕ
sum_up m n = min (m + n) (2 ^ 64 - 1)

-- nothing is counted of no segment
abbrev pub no_totals : Totals
no_totals = record {
  calls = 0;
  met = record { overlapping = 0; beside = 0; since_open = 0; since_kept = 0; since_lagging = 0; repeated = 0 };
}

-- of some and of others: sums, and the most late faults of one thread at one address in any of them
abbrev pub totals_plus : Totals → Totals → Totals
totals_plus one other = record {
  calls = sum_up one.calls other.calls;
  met = record {
    overlapping = sum_up one.met.overlapping other.met.overlapping;
    beside = sum_up one.met.beside other.met.beside;
    since_open = sum_up one.met.since_open other.met.since_open;
    since_kept = sum_up one.met.since_kept other.met.since_kept;
    since_lagging = sum_up one.met.since_lagging other.met.since_lagging;
    repeated = max one.met.repeated other.met.repeated;
  };
}

-- with a segment more, of which this is the order
abbrev pub totals_with : Totals → List ℕ → Met → Totals
totals_with totals order met = totals_plus totals (record { calls = length order; met = met })
