-- What the searches through a trace find. No public clause cites this file.
use Rattle.std.specs.Prelude.{◌≡◌, ◌≢◌, ℕ, ◌+◌, ◌<◌, ◌≤◌, slice_get, Option, Some, None, IsSome}
use Rattle.nr_trace.specs.Recording.{Recording}
use Rattle.nr_trace.specs.Calls.{Answers, Invocation, IsCall, Response, call_of, reply_of}
use Rattle.nr_trace.specs.Orders.{floor, known_by}
use Rattle.nr_trace.specs.declared.refusals.fault.Fault.{Fault}
use Rattle.nr_explain.specs.Dumps.{HasSoundDump, IsFirstOfItsDump, replica_of}
use Rattle.nr_explain.specs.Facts.{IsCallOf, IsReplyOf, response}
use Rattle.nr_explain.specs.declared.trace.evidence.RecordedCall.{RecordedCall}
use Rattle.nr_explain.specs.declared.trace.evidence.RecordedReply.{RecordedReply}
use Rattle.nr_explain.specs.declared.trace.evidence.ShortPrefix.{ShortPrefix}

-- the event is a reply
abbrev pub IsReply : Recording → ℕ → Type 0
IsReply trace index = IsSome (reply_of trace index)

-- the event is a call of the thread
pub record IsMadeBy (trace : Recording) (thread index : ℕ) : Type 0 where
  pub made : Invocation
  pub is_made : call_of trace index ≡ Some made
  pub same : made.thread ≡ thread

-- no event between two is a call of the thread
abbrev pub IsIdle : Recording → ℕ → ℕ → ℕ → Type 0
IsIdle trace thread first end = (index : ℕ) → first ≤ index → index < end → IsMadeBy trace thread index → ⊥

-- the last call of a thread before an event, or none
abbrev pub IsLastCall : Recording → ℕ → ℕ → Option RecordedCall → Type 0
IsLastCall trace thread end None = IsIdle trace thread 0 end
IsLastCall trace thread end (Some call) =
    IsCallOf trace call × (call.thread ≡ thread) × (call.event < end) × IsIdle trace thread (call.event + 1) end

-- no event below an end answers the call
abbrev pub IsOpenBelow : Recording → ℕ → ℕ → Type 0
IsOpenBelow trace call end = (index : ℕ) → index < end → Answers trace index call → ⊥

-- the first reply to a call before an event, or none
abbrev pub IsFirstReply : Recording → ℕ → ℕ → Option RecordedReply → Type 0
IsFirstReply trace call end None = IsOpenBelow trace call end
IsFirstReply trace call end (Some reply) =
    IsReplyOf trace reply × (reply.call ≡ call) × (reply.event < end) × IsOpenBelow trace call reply.event

-- no place below an end has the call
abbrev pub IsUnplacedBelow : Recording → ℕ → ℕ → Type 0
IsUnplacedBelow trace call end = (place : ℕ) → place < end → slice_get trace.log place ≢ Some call

-- the first reply by which just so many entries are known; or none, where none are known
abbrev pub IsBinding : Recording → ℕ → ℕ → Option RecordedReply → Type 0
IsBinding trace end known None = known ≡ 0
IsBinding trace end known (Some reply) =
    IsReplyOf trace reply × (reply.event < end) × (known_by trace (response reply) ≡ known) × (floor trace reply.event < known)

-- the log has a call at the place
abbrev pub HasCallAt : Recording → ℕ → Type 0
HasCallAt trace place = (call : ℕ) → slice_get trace.log place ≡ Some call → IsCall trace call

-- the event is a reply to a call made at the replica, by which more than so many entries are known
pub record RestsAt (trace : Recording) (replica applied index : ℕ) : Type 0 where
  pub reply : Response
  pub is_reply : reply_of trace index ≡ Some reply
  pub made : Invocation
  pub is_made : call_of trace reply.call ≡ Some made
  pub here : made.replica ≡ replica
  pub more : applied < known_by trace reply

-- no event before an end is such a reply
abbrev pub RestsNowhere : Recording → ℕ → ℕ → ℕ → Type 0
RestsNowhere trace replica applied end = (index : ℕ) → index < end → RestsAt trace replica applied index → ⊥

-- such a reply, with its call
pub record IsResting (trace : Recording) (replica applied : ℕ) (found : ShortPrefix) : Type 0 where
  pub replica_is : found.replica ≡ replica
  pub applied_is : found.applied ≡ applied
  pub reply : IsReplyOf trace found.reply
  pub known : found.known ≡ known_by trace (response found.reply)
  pub more : found.applied < found.known
  pub call : IsCallOf trace found.call
  pub names : found.reply.call ≡ found.call.event
  pub here : found.call.replica ≡ found.replica

-- what a search for the first fault of a replica's dump finds
abbrev pub IsFoundOfDump : Recording → ℕ → Option Fault → Type 0
IsFoundOfDump trace replica None = HasSoundDump trace replica
IsFoundOfDump trace replica (Some fault) = (replica_of fault ≡ Some replica) × IsFirstOfItsDump trace fault
