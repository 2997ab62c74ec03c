-- What the calls of a trace are answered, by number. No public clause cites this file.
use Rattle.std.specs.Prelude.{ℕ, ◌==◌, ◌&&◌, Bool, false, Option, Some, None, is_some, option_map, option_and_then, if◌then◌else◌}
use Rattle.std.specs.Option.{option_map_or}
use Rattle.vs_types.specs.declared.requests.answer.Answer.{Answer}
use Rattle.nr_trace.specs.Recording.{Recording}
use Rattle.nr_trace.specs.Calls.{call_of, reply_to, address_of}

-- the position that the reply to a call gives
abbrev pub position_of : Recording → ℕ → Option ℕ
position_of trace call = option_map (λ reply. reply.at) (reply_to trace call)

-- what a call is answered
abbrev pub answer_to : Recording → ℕ → Option Answer
answer_to trace call = option_map (λ reply. reply.answer) (reply_to trace call)

-- how many entries an answered read saw
abbrev pub entries_seen : Recording → ℕ → Option ℕ
entries_seen trace call = option_and_then (λ address. position_of trace call) (address_of trace call)

-- whether a call is a read that saw just so many entries
abbrev pub saw : Recording → ℕ → ℕ → Bool
saw trace n call = is_some (address_of trace call) && option_map_or (λ reply. reply.at == n) (reply_to trace call) false
