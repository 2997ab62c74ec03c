-- How far the log has to be applied to a dump. No public clause cites this file.
use Rattle.std.specs.Prelude.{◌≡◌, ℕ, ◌<◌, ◌≤◌, List, length, max, slice_index_or, slice_set, Option, Some, None}
use Rattle.nr_trace.specs.Recording.{Recording}
use Rattle.nr_trace.specs.Calls.{Invocation, call_of, Response, reply_of}
use Rattle.nr_trace.specs.Orders.{known_by}

-- the reply of an event below an end is to a call made at the replica
pub record IsReplyAt (trace : Recording) (end replica index : ℕ) (reply : Response) : Type 0 where
  pub below : index < end
  pub is_reply : reply_of trace index ≡ Some reply
  pub made : Invocation
  pub is_made : call_of trace reply.call ≡ Some made
  pub here : made.replica ≡ replica

-- some reply at the replica makes so many entries known
pub record KnowsJust (trace : Recording) (end replica entries : ℕ) : Type 0 where
  pub index : ℕ
  pub reply : Response
  pub at : IsReplyAt trace end replica index reply
  pub just : known_by trace reply ≡ entries

-- for each replica the most entries that are known by a reply at it, of the events below an end
pub record AreNeeds (trace : Recording) (end : ℕ) (needs : List ℕ) : Type 0 where
  pub four : length needs ≡ 4
  pub most : (replica index : ℕ) (reply : Response) → IsReplyAt trace end replica index reply → known_by trace reply ≤ slice_index_or needs replica 0
  pub reached : (replica : ℕ) → 0 < slice_index_or needs replica 0 → KnowsJust trace end replica (slice_index_or needs replica 0)

-- what the replicas need, with what is known by a reply to a call that was made
abbrev pub with_known : List ℕ → Option Invocation → ℕ → List ℕ
with_known needs None known = needs
with_known needs (Some made) known = slice_set needs made.replica (max (slice_index_or needs made.replica 0) known)
