-- The first replies to all calls of a trace.
use Rattle.std.specs.Prelude.{◌≡◌, ℕ, ◌<◌, ◌↔◌, ◌^◌, List, length, slice_index}
use Rattle.nr_trace.specs.Recording.{Recording}
use Rattle.nr_trace.specs.Calls.{Answers}

-- by the index of each call the first event that answers it, or a number past all events where none does
pub record AreReplies (trace : Recording) (replies : List ℕ) : Type 0 where
  pub one_each : length replies ≡ length trace.events
  pub first : (call event : ℕ) → call < length replies → event < 2 ^ 32
      → (slice_index replies call < event) ↔ ((reply : ℕ) × (reply < event) × Answers trace reply call)
