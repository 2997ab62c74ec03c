-- A planner of a range at the entry for the base, and what holds of each of its steps: no public clause cites it.
use Rattle.std.specs.Prelude.{◌≡◌, ◌≢◌, ◌<◌, ℕ, List, [], slice_index}
use Rattle.vs_types.specs.declared.addresses.frame.TheConstants.{FRAME_WORDS}
use Rattle.vs_types.specs.Depth.{index_at}
use Rattle.vs_plan.specs.declared.plans.planner.Phase.TheVariants.{Descent}
use Rattle.vs_range.specs.declared.planner.RangePlanner.{RangePlanner}
use Rattle.vs_range.specs.declared.planner.RangeStep.{RangeStep}
use Rattle.vs_range.specs.Planner.{AwaitsNext, AwaitsRange, FollowsLink, HasGivenFor, HasRoom, IsSameRange, TakesPage, range_sees, range_sees_left}

-- the planner is on its way down, and of the words that it waits for this one was read: that of the entry for the base
pub record HasReadEntry (range : RangePlanner) (words : List ℕ) (IsUnread : ℕ → Type 0) (word : ℕ) : Type 0 where
  pub awaits : AwaitsRange range
  pub phase : range.planner.phase ≡ Descent
  pub read : word ≡ slice_index words (index_at range.planner.level range.base)
  pub unread : (i : ℕ) → i < FRAME_WORDS → i ≢ index_at range.planner.level range.base → IsUnread i

-- a step of it, whatever the words were: the range is the same, and fewer frames are asked for
pub record IsStep (before after : RangePlanner) (step : RangeStep) : Type 0 where
  pub same : IsSameRange before after
  pub awaits : AwaitsNext after step
  pub fewer : range_sees_left after step < range_sees before
  pub given : HasGivenFor after [] step
  pub room : HasRoom step

-- what the entry leads to: a page there is taken as `TakesPage` says, and a link is followed
pub record TakesEntry (before : RangePlanner) (words : List ℕ) (after : RangePlanner) (step : RangeStep) : Type 0 where
  pub taken : TakesPage before words step
  pub leads : FollowsLink before words after step
