-- An answer that is not the space's.
use Rattle.std.proofs.Common.{◌≡◌, ℕ, ◌≤◌, Option, Some, option_and_then, length, take, sym, ap, ◌∙◌}
use Rattle.std.proofs.lemmas.Option.{none-some, same_Some}
use Rattle.vs_types.specs.Space.{Space}
use Rattle.vs_types.specs.declared.requests.answer.Answer.{Answer}
use Rattle.vs_types.specs.declared.requests.request.Query.{Query}
use Rattle.nr_trace.specs.Recording.{Recording}
use Rattle.nr_trace.specs.Calls.{Invocation, Response, request_in, request_of}
use Rattle.nr_trace.specs.Faults.{IsFirstFrom}
use Rattle.nr_trace.specs.Orders.{answer_in, before, recorded_order, space_from}
use Rattle.nr_trace.specs.declared.recordings.event.Asked.{Asked}
use Rattle.nr_trace.specs.declared.recordings.event.Asked.TheVariants as askeds
use Rattle.nr_trace.specs.declared.refusals.fault.Fault.TheVariants.{WrongAnswer}
use Rattle.nr_trace.proofs.LawsOfCalls.{answered_stands, ordered_from_request}
use Rattle.nr_trace.proofs.LawsOfFaults.{clean_before_answers}
use Rattle.nr_trace.proofs.LawsOfOrder.{space_before}
use Rattle.nr_explain.specs.Evidence.{IsOtherAnswerFrom}
use Rattle.nr_explain.specs.Facts.{IsCallOf, IsLastChangeFrom, IsReplyOf, address_about, response}
use Rattle.nr_explain.specs.Nearest.{IsMemoryOf, IsNearest}
use Rattle.nr_explain.specs.declared.trace.nearby.NamedMemory.{NamedMemory}
use Rattle.nr_explain.specs.declared.trace.nearby.RightAfter.{RightAfter}
use Rattle.nr_explain.specs.declared.trace.evidence.PlacedUpdate.{PlacedUpdate}
use Rattle.nr_explain.specs.declared.trace.evidence.RecordedCall.{RecordedCall}
use Rattle.nr_explain.specs.declared.trace.evidence.RecordedReply.{RecordedReply}
use Rattle.nr_explain.proofs.Replies.{first_to}

-- a call that asks for a request
asks_for : (asked : Asked) (request : Query) → request_in asked ≡ Some request → asked ≡ askeds.Request request
asks_for (askeds.Request own) request e = ap askeds.Request (same_Some own request e)
asks_for (askeds.Touch address mode access) request e = absurd (none-some request e)
asks_for (askeds.Release size phys) request e = absurd (none-some request e)

-- the reply gives no more entries than the log has
pub few_seen : (start : Space) (trace : Recording) (index : ℕ) (reply : RecordedReply) → IsFirstFrom start trace (WrongAnswer index)
    → IsReplyOf trace reply → reply.call ≡ index
    → reply.at ≤ length trace.log
few_seen start trace index reply first is names =
    let clean = clean_before_answers start trace index first in
    let wrong = first.holds in
    let ordered = ordered_from_request trace index wrong.request wrong.asks in
    (answered_stands trace index (response reply) clean ordered (first_to trace index reply clean is names)).1

pub wrong_facts : (start : Space) (trace : Recording) (call : RecordedCall) (request : Query) (reply : RecordedReply) (wanted : Answer) (address : ℕ)
    (changed : Option PlacedUpdate) (right : RightAfter) (memory : Option NamedMemory)
    → IsFirstFrom start trace (WrongAnswer call.event) → IsCallOf trace call
    → request_of trace call.event ≡ Some request → IsReplyOf trace reply → reply.call ≡ call.event
    → wanted ≡ answer_in trace.layout (space_from start trace (take reply.at trace.log)) request → address ≡ address_about request wanted
    → IsLastChangeFrom start trace address reply.at changed → IsNearest start trace request reply.answer reply.at reply.at right
    → IsMemoryOf (space_from start trace (take reply.at trace.log)) reply.answer memory
    → IsOtherAnswerFrom start trace (record {
      call = call;
      reply = reply;
      wanted = wanted;
      address = address;
      changed = changed;
      right = right;
      memory = memory;
    })
wrong_facts start trace call request reply wanted address changed right memory first is_call asked is_reply names told about change near named =
    let clean = clean_before_answers start trace call.event first in
    let to = first_to trace call.event reply clean is_reply names in
    let wrong = first.holds in
    let ordered = ordered_from_request trace call.event wrong.request wrong.asks in
    let stands = answered_stands trace call.event (response reply) clean ordered to in
    let space = space_before start trace reply.at call.event clean stands.1 stands.0 in
    let is = told ∙ ap (λ (s : Space). answer_in trace.layout s request) (sym space) in
    let one_reply = same_Some wrong.reply (response reply) (sym wrong.is_reply ∙ to) in
    let one_call = same_Some request wrong.request (sym asked ∙ wrong.asks) in
    record {
      call = is_call;
      request = request;
      asks = asks_for call.asked request (sym (ap (option_and_then (λ (m : Invocation). request_in m.asked)) is_call) ∙ asked);
      reply = is_reply;
      first = to;
      wanted = is;
      differs = λ same. wrong.differs (ap (λ (r : Response). r.answer) one_reply ∙ same ∙ is
          ∙ ap (λ (q : Query). answer_in trace.layout (space_from start trace (before call.event (recorded_order trace))) q) one_call);
      address = about;
      stands = stands.0;
      changed = change;
      right = near;
      memory = named;
    }
