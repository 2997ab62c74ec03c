-- The moments that show a touch to be right, in the first of two runs and in both as one.
use Rattle.std.proofs.Common.{◌≡◌, ℕ, ◌+◌, ◌<◌, ◌≤◌, inl, inr, length, Option, Some, None, arith}
use Rattle.std.specs.Prelude.{⊤}
use Rattle.vs_types.specs.Space.{Space}
use Rattle.nr_trace.specs.Recording.{Recording}
use Rattle.nr_trace.specs.Joined.{joined_traces}
use Rattle.nr_trace.specs.Run.{Run, IsOrderly}
use Rattle.nr_touch.specs.Touches.{touch_behind, IsRightBehind, IsRightTouch}
use Rattle.nr_touch.specs.declared.touches.touch.Touch.{Touch}
use Rattle.nr_chain.proofs.Touched.{in_time_at_back, in_time_front, lagging_back, lagging_front}
use Rattle.chain_cuts.specs.Moments.{until_cut, Moments, Show, ShowBehind}
use Rattle.chain_cuts.specs.Moments.Moments.{InTime, Lagging}

-- ---- a touch is right exactly where some moments show it

shown_in : (start : Space) (trace : Recording) (touch : Touch) → IsRightTouch start trace touch → (moments : Moments) × Show start trace touch moments
shown_in start trace touch (inl (n, allowed, answered)) = (InTime n, (allowed, answered))
shown_in start trace touch (inr (fault, m, it)) = (Lagging m, (fault, it))

right_in : (start : Space) (trace : Recording) (touch : Touch) (moments : Moments) → Show start trace touch moments → IsRightTouch start trace touch
right_in start trace touch (InTime n) (allowed, answered) = inl (n, allowed, answered)
right_in start trace touch (Lagging m) (fault, it) = inr (fault, m, it)

pub shown : (before : Option Run) (start : Space) (segment : Recording) (touch : Touch) → IsRightBehind before start segment touch
    → (moments : Moments) × ShowBehind before start segment touch moments
shown None start segment touch right = shown_in start segment touch right
shown (Some run) start segment touch right =
    shown_in run.start (joined_traces run.trace segment) (touch_behind (length run.trace.events) (length run.trace.log) touch) right

pub right_by : (before : Option Run) (start : Space) (segment : Recording) (touch : Touch) (moments : Moments) → ShowBehind before start segment touch moments
    → IsRightBehind before start segment touch
right_by None start segment touch moments show = right_in start segment touch moments show
right_by (Some run) start segment touch moments show =
    right_in run.start (joined_traces run.trace segment) (touch_behind (length run.trace.events) (length run.trace.log) touch) moments show

-- ---- what was known of its replica

-- if the moment is of a table that lagged, the one is at most the other
abbrev pub IsFewer : Moments → ℕ → ℕ → Type 0
IsFewer (InTime n) few many = ⊤
IsFewer (Lagging m) few many = few ≤ many

pub fewer : (moments : Moments) (few many : ℕ) → few ≤ many → IsFewer moments few many
fewer (InTime n) few many low = tt
fewer (Lagging m) few many low = low

pub fewer_behind : (moments : Moments) (before few many : ℕ) → IsFewer moments few many → IsFewer moments (before + few) (before + many)
fewer_behind (InTime n) before few many low = tt
fewer_behind (Lagging m) before few many low = omega (arith, low)

-- the same moments show a touch of which fewer entries are known at its replica; and one of which more are, where its table didn't lag
pub with_known : (start : Space) (trace : Recording) (touch : Touch) (known : ℕ) (moments : Moments) → IsFewer moments known touch.known
    → Show start trace touch moments → Show start trace (record touch { known = known }) moments
with_known start trace touch known (InTime n) few (allowed, answered) = (
  record { within = allowed.within; flushed = allowed.flushed; not_foreseen = allowed.not_foreseen },
  answered,
)
with_known start trace touch known (Lagging m) few (fault, it) = (
  fault,
  record { within = it.within; known = let all = it.known in omega (arith, few, all); not_foreseen = it.not_foreseen; absent = it.absent },
)

-- ---- in the first and in both

module _ (start : Space) (first second : Recording) (same_layout : second.layout ≡ first.layout) (orderly : IsOrderly first) (touch : Touch) where
  pub show_front : touch.made < length first.events → (moments : Moments) → Show start first touch moments
      → Show start (joined_traces first second) touch moments
  show_front inside (InTime n) (allowed, answered) = in_time_front start first second same_layout orderly touch n inside allowed answered
  show_front inside (Lagging m) (fault, it) = (fault, lagging_front start first second same_layout orderly touch m it)

  pub show_back : touch.answered < length first.events → touch.known ≤ length first.log → (moments : Moments)
      → Show start (joined_traces first second) touch moments → Show start first touch (until_cut (length first.log) moments)
  show_back inside known (InTime n) (allowed, answered) = in_time_at_back start first second same_layout orderly touch n inside allowed answered
  show_back inside known (Lagging m) (fault, it) = (fault, lagging_back start first second same_layout orderly touch m inside known it)
