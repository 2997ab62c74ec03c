-- No answer is wrong.
use Rattle.std.proofs.Common.{◌≡◌, ℕ, zero, suc, inl, inr, List, [], ◌∷◌, take, map, Some, option_and_then, refl, ap, sym, ◌∙◌}
use Rattle.std.proofs.lemmas.List.{take-map}
use Rattle.std.proofs.lemmas.Option.{none-some, same_Some}
use Rattle.vs_types.specs.declared.requests.request.Query.{Query}
use Rattle.vs_types.specs.Space.{no_pages}
use Rattle.vs_types.specs.Step.{after_all}
use Rattle.vs_types.specs.declared.log_entry.LogEntry.{LogEntry}
use Rattle.vs_walk.specs.Dump.{Image}
use Rattle.nr_trace.specs.Calls.{Invocation, operation_in, operation_of, request_in, reply_of}
use Rattle.nr_trace.specs.Orders.{before, space_after, operations, answer_in, recorded_order}
use Rattle.nr_trace.specs.Faults.{HasFault}
use Rattle.nr_trace.specs.declared.recordings.event.Asked.{Asked}
use Rattle.nr_trace.specs.declared.recordings.event.Asked.TheVariants as askeds
use Rattle.nr_trace.specs.declared.formats.version.Version.{Version}
use Rattle.nr_trace.specs.declared.refusals.fault.Fault.TheVariants.{WrongAnswer}
use Rattle.nr_trace.proofs.LawsOfCalls.{reply_event, answered_stands, ordered_from_request}
use Rattle.nr_trace.proofs.LawsOfLists.{In}
use Rattle.nr_trace.proofs.LawsOfOrder.{space_before}
use Rattle.nr_core.specs.State.{State}
use Rattle.nr_core.specs.inside.Reached.{query_in, At, call_at, calls_of, space_at, IsReached}
use Rattle.nr_core.proofs.reached.Places.{at_in}
use Rattle.nr_core.proofs.reached.Recorded.{recording}
use Rattle.nr_core.proofs.reached.CleanLog.{operation_at, clean_log}

operations_of : (state : State) (version : Version) (dumps : List Image) (entries : List LogEntry)
    → ((entry : LogEntry) → In entry entries → operation_of (recording state version dumps) entry.call ≡ Some entry.op)
    → operations (recording state version dumps) (calls_of entries) ≡ map (λ (entry : LogEntry). entry.op) entries
operations_of state version dumps [] h = refl
operations_of state version dumps (entry ∷ entries) h =
    let e = h entry (inl refl) in
    rw e (ap (λ actions. entry.op ∷ actions) (operations_of state version dumps entries (λ other i. h other (inr i))))

in_front : (entries : List LogEntry) (n : ℕ) (entry : LogEntry) → In entry (take n entries) → In entry entries
in_front entries zero entry i = absurd i
in_front [] (suc n) entry i = absurd i
in_front (x ∷ entries) (suc n) entry (inl e) = inl e
in_front (x ∷ entries) (suc n) entry (inr i) = inr (in_front entries n entry i)

-- the space after some places of the log is that after the operations of its entries
pub space_of_log : (state : State) (version : Version) (dumps : List Image) (n : ℕ) → IsReached state
    → space_after (recording state version dumps) (take n (calls_of state.log)) ≡ space_at state.layout state.log n
space_of_log state version dumps n reached =
    ap (space_after (recording state version dumps)) (take-map (λ (entry : LogEntry). entry.call) n state.log)
    ∙ ap (after_all state.layout.depth state.layout.tables no_pages)
    (operations_of state version dumps (take n state.log) (λ entry i. operation entry (at_in state.log entry (in_front state.log n entry i)))) where
      operation : (entry : LogEntry) → (place : ℕ) × At state.log place entry → operation_of (recording state version dumps) entry.call ≡ Some entry.op
      operation entry (place, at) =
          let (made, is, asks, behind) = reached.entries place entry at in
          operation_at state version dumps entry.call made entry.op is (ap operation_in asks)

-- a call that asks for a request asks for its own
asks_itself : (asked : Asked) (request : Query) → request_in asked ≡ Some request → query_in asked ≡ request
asks_itself (askeds.Request own) request e = same_Some own request e
asks_itself asked request e = absurd (none-some request e)

pub none_wrong : (state : State) (version : Version) (dumps : List Image) (call : ℕ) → IsReached state
    → HasFault (recording state version dumps) (WrongAnswer call) → ⊥
none_wrong state version dumps call reached h = h.differs (is_right (reply_event trace call h.reply h.is_reply)) where
  trace : Rattle.nr_trace.specs.Recording.Recording
  trace = recording state version dumps

  is_right : (index : ℕ) × (reply_of trace index ≡ Some h.reply) × (h.reply.call ≡ call)
      → h.reply.answer ≡ answer_in state.layout (space_after trace (before call (recorded_order trace))) h.request
  is_right (index, e, same) =
      let (made, earlier, is, right) = reached.replies index h.reply e in
      let own : call_at state.events call ≡ Some made = ap (call_at state.events) (sym same) ∙ is in
      let one = asks_itself made.asked h.request (sym (ap (option_and_then (λ (m : Invocation). request_in m.asked)) own) ∙ h.asks) in
      let stands = answered_stands trace call h.reply (clean_log state version dumps reached)
      (ordered_from_request trace call h.request h.asks) h.is_reply in
      right.answered
      ∙ ap (λ (q : Query). answer_in state.layout (space_at state.layout state.log h.reply.at) q) one
      ∙ ap (λ space. answer_in state.layout space h.request)
      (sym (space_before no_pages trace h.reply.at call (clean_log state version dumps reached) stands.1 stands.0
      ∙ space_of_log state version dumps h.reply.at reached))
