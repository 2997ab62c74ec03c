-- First replies.
use Rattle.std.proofs.Common.{◌≡◌, ℕ, ◌<◌, Option, Some, None, length, subst, arith}
use Rattle.std.proofs.lemmas.Option.{slice_get_within}
use Rattle.nr_trace.specs.Recording.{Recording}
use Rattle.nr_trace.specs.Calls.{Response, reply_to, IsCall, IsOrdered}
use Rattle.nr_trace.specs.Faults.{StandsAfter}
use Rattle.nr_trace.specs.Laws.{HasCleanLog}
use Rattle.nr_trace.proofs.LawsOfCalls.{answered_stands, answers_from, reply_event, reply_in_event, reply_is_first, reply_behind_call, reply_that_answers}
use Rattle.nr_explain.specs.Facts.{IsFirstReplyTo, IsReplyOf, response}
use Rattle.nr_explain.specs.inside.Searches.{IsFirstReply, IsOpenBelow}
use Rattle.nr_explain.specs.declared.trace.evidence.RecordedReply.{RecordedReply}

-- an answered call has a reply among the events
pub some_reply : (trace : Recording) (call : ℕ) (reply : Response) → reply_to trace call ≡ Some reply → IsOpenBelow trace call (length trace.events) → ⊥
some_reply trace call reply is open_call =
    let given = reply_event trace call reply is in
    let at = reply_in_event _ reply given.1 in
    open_call given.0 (slice_get_within trace.events given.0 at.0 at.1) (answers_from trace given.0 call reply given.1 given.2)

-- a reply that names a call is the first to it, where no call is answered twice
pub first_to : (trace : Recording) (call : ℕ) (reply : RecordedReply) → HasCleanLog trace → IsReplyOf trace reply → reply.call ≡ call
    → reply_to trace call ≡ Some (response reply)
first_to trace call reply clean is names =
    subst (λ (n : ℕ). reply_to trace n ≡ Some (response reply)) names (reply_is_first trace reply.event (response reply) clean is)

pub stands_by_reply : (trace : Recording) (call : ℕ) (reply : RecordedReply) → HasCleanLog trace → IsOrdered trace call → IsReplyOf trace reply
    → reply.call ≡ call → StandsAfter trace call reply.at
stands_by_reply trace call reply clean ordered is names =
    (answered_stands trace call (response reply) clean ordered (first_to trace call reply clean is names)).0

pub names_earlier : (trace : Recording) (reply : RecordedReply) → HasCleanLog trace → IsReplyOf trace reply → IsCall trace reply.call
names_earlier trace reply clean is = (reply_behind_call trace reply.event (response reply) clean is).1

-- the first reply among all events is the first
pub first_among_all : (trace : Recording) (call end : ℕ) (found : Option RecordedReply) → end ≡ length trace.events → IsFirstReply trace call end found
    → IsFirstReplyTo trace call found
first_among_all trace call end None is open_call = λ index answers.
    let given = reply_that_answers trace index call answers in
    let at = reply_in_event _ given.0 given.1 in
    let within : index < length trace.events = slice_get_within trace.events index at.0 at.1 in
    open_call index (omega arith) answers
first_among_all trace call end (Some reply) is found = (found.0, found.1, found.3)
