-- The calls of an order by their last events. No public clause cites this file.
use Rattle.std.specs.Prelude.{◌≡◌, ℕ, ◌<◌, List, length, slice_index}
use Rattle.std.specs.Option.{option_map_or}
use Rattle.nr_trace.specs.Recording.{Recording}
use Rattle.nr_trace.specs.Calls.{reply_of, reply_to}

-- the call of an event: that which the event names, if it is a reply, or the one that it is
abbrev pub call_at : Recording → ℕ → ℕ
call_at trace event = option_map_or (λ reply. reply.call) (reply_of trace event) event

-- the event is the last one of the call: the only reply to it, or the call itself where it has none
pub record IsLastEvent (trace : Recording) (call event : ℕ) : Type 0 where
  pub within : event < length trace.events
  pub names : call_at trace event ≡ call
  pub only_reply : reply_of trace event ≡ reply_to trace call

-- the last event of each call
pub record AreLastEvents (trace : Recording) (calls events : List ℕ) : Type 0 where
  pub one_each : length events ≡ length calls
  pub each : (k : ℕ) → k < length calls → IsLastEvent trace (slice_index calls k) (slice_index events k)
