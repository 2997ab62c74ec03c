-- What the tables say that the passes make of a trace. No public clause cites this file.
use Rattle.std.specs.Prelude.{◌≡◌, ℕ, ◌<◌, ◌≤◌, List, length, slice_get, slice_index_or, Option, Some, None}
use Rattle.nr_trace.specs.Recording.{Recording}
use Rattle.nr_trace.specs.Calls.{Answers, IsUpdate}

-- of the events below an index, the only one that is a reply to the call, or none where no event is
abbrev pub IsReplyBelow : Recording → ℕ → ℕ → Option ℕ → Type 0
IsReplyBelow trace end call None = (index : ℕ) → index < end → Answers trace index call → ⊥
IsReplyBelow trace end call (Some reply) = (reply < end) × Answers trace reply call × ((index : ℕ) → index < end → Answers trace index call → index ≡ reply)

-- for each event of the trace the only reply to it, and nothing else has a reply
pub record AreReplies (trace : Recording) (table : List (Option ℕ)) : Type 0 where
  pub one_each : length table ≡ length trace.events
  pub each : (call : ℕ) → call < length table → IsReplyBelow trace (length trace.events) call (slice_index_or table call None)
  pub no_other : (call : ℕ) → length table ≤ call → (index : ℕ) → Answers trace index call → ⊥

-- of the places below an end, the only one that has the call, or none where no place has it
abbrev pub IsPlaceBelow : Recording → ℕ → ℕ → Option ℕ → Type 0
IsPlaceBelow trace end call None = (place : ℕ) → place < end → slice_get trace.log place ≡ Some call → ⊥
IsPlaceBelow trace end call (Some own) =
    (own < end) × (slice_get trace.log own ≡ Some call) × ((place : ℕ) → place < end → slice_get trace.log place ≡ Some call → place ≡ own)

-- for each update of the trace the only place that has it
pub record ArePlaces (trace : Recording) (table : List (Option ℕ)) : Type 0 where
  pub one_each : length table ≡ length trace.events
  pub each : (call : ℕ) → call < length table → IsUpdate trace call
      → IsPlaceBelow trace (length trace.log) call (slice_index_or table call None)
