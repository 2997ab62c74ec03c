-- The calls that overlap another one, as they are counted. No public clause cites this file.
use Rattle.std.specs.Prelude.{◌≡◌, ◌↔◌, ℕ, ◌+◌, ◌<◌, ◌≤◌, ◌⊎◌, List, count_by, slice_index, IsTrue, Option, Some, None}
use Rattle.nr_trace.specs.Recording.{Recording}
use Rattle.nr_trace.specs.Orders.{below}
use Rattle.nr_audit.specs.Meetings.{is_asked, meets}
use Rattle.nr_audit.specs.declared.histories.meetings.Latest.{Latest}

-- it is the number of an update or a read
abbrev pub Asks : Recording → ℕ → Type 0
Asks trace call = IsTrue (is_asked trace call)

-- an earlier call is open as this one is made, by the first replies to calls
abbrev pub HasMet : Recording → List ℕ → ℕ → Type 0
HasMet trace replies call = (earlier : ℕ) × (earlier < call) × Asks trace earlier × (call ≤ slice_index replies earlier)

-- the last call below an end, and how many calls before it meet another one
abbrev pub IsCountedTo : Recording → List ℕ → ℕ → Option Latest → ℕ → Type 0
IsCountedTo trace replies end None count = ((call : ℕ) → call < end → Asks trace call → ⊥) × (count ≡ 0)
IsCountedTo trace replies end (Some last) count =
    (last.call < end) × (last.reply ≡ slice_index replies last.call) × Asks trace last.call × ((call : ℕ) → last.call < call → call < end → Asks trace call → ⊥)
    × (IsTrue last.has_met ↔ HasMet trace replies last.call) × (count ≡ count_by (meets trace) (below last.call))

-- the first number of an event by which each call below an end has a reply, if that is so for all
pub record IsReachOf (trace : Recording) (replies : List ℕ) (end reach : ℕ) : Type 0 where
  pub all : (call : ℕ) → call < end → Asks trace call → slice_index replies call < reach
  pub met : (reach ≡ 0) ⊎ ((call : ℕ) × (call < end) × Asks trace call × (slice_index replies call + 1 ≡ reach))
