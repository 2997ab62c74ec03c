-- What a search of touches finds.
use Rattle.std.specs.Prelude.{◌≡◌, ℕ, ◌<◌, List, slice_get, Option, Some, None}
use Rattle.vs_types.specs.Space.{Space}
use Rattle.nr_trace.specs.Recording.{Recording}
use Rattle.nr_trace.specs.Run.{Run}
use Rattle.nr_touch.specs.Touches.{IsRightBehind}
use Rattle.nr_touch.specs.declared.touches.touch.Touch.{Touch}

-- each touch below an index is right
abbrev pub AreRightBelow : Option Run → Space → Recording → List Touch → ℕ → Type 0
AreRightBelow before start segment touches end =
    (index : ℕ) (touch : Touch) → index < end → slice_get touches index ≡ Some touch → IsRightBehind before start segment touch

-- the first touch that is not right, or none where each is
abbrev pub FindsStale : Option Run → Space → Recording → List Touch → Option ℕ → Type 0
FindsStale before start segment touches None =
    (index : ℕ) (touch : Touch) → slice_get touches index ≡ Some touch → IsRightBehind before start segment touch
FindsStale before start segment touches (Some index) =
    (touch : Touch) × (slice_get touches index ≡ Some touch) × (IsRightBehind before start segment touch → ⊥)
    × AreRightBelow before start segment touches index
