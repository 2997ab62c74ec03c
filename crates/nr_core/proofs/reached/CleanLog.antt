-- No fault of the events by themselves, of the log or of a reply's place.
use Rattle.std.proofs.Common.{◌≡◌, ℕ, List, Some, option_and_then, refl, ap, sym, ◌∙◌, arith}
use Rattle.std.proofs.lemmas.List.{length-map}
use Rattle.vs_types.specs.declared.log_entry.LogEntry.{LogEntry}
use Rattle.vs_types.specs.declared.requests.op.Action.{Action}
use Rattle.vs_walk.specs.Dump.{Image}
use Rattle.nr_trace.specs.Calls.{Invocation, operation_in, operation_of, request_in, IsUpdate}
use Rattle.nr_trace.specs.Faults.{HasFault}
use Rattle.nr_trace.specs.Laws.{HasCleanLog}
use Rattle.nr_trace.specs.declared.recordings.event.Asked.{Asked}
use Rattle.nr_trace.specs.declared.recordings.event.Asked.TheVariants as askeds
use Rattle.nr_trace.specs.declared.formats.version.Version.{Version}
use Rattle.nr_trace.specs.declared.refusals.fault.Fault.TheVariants.{ThreadOpen, NotPlaced, PastLog}
use Rattle.nr_trace.proofs.LawsOfCalls.{is_some_from, the_some}
use Rattle.nr_core.proofs.reached.Places.{at_mapped}
use Rattle.nr_core.specs.State.{State}
use Rattle.nr_core.specs.inside.Reached.{query_in, request_made, At, call_at, calls_of, IsReached}
use Rattle.nr_core.proofs.reached.Growth.{at_within_reach}
use Rattle.nr_core.proofs.reached.Recorded.{recording, answered_to, answers_to, at_map, distinct_apart}

-- what a call does is what its request does
operation_asked : (asked : Asked) → option_and_then operation_in (request_in asked) ≡ operation_in (query_in asked)
operation_asked (askeds.Request request) = refl
operation_asked asked = refl

operation_is : (state : State) (version : Version) (dumps : List Image) (call : ℕ) (made : Invocation) → call_at state.events call ≡ Some made
    → operation_of (recording state version dumps) call ≡ operation_in (request_made made)
operation_is state version dumps call made e =
    ap (λ o. option_and_then operation_in (option_and_then (λ (m : Invocation). request_in m.asked) o)) e ∙ operation_asked made.asked

-- the operation of an update among the calls
pub operation_at : (state : State) (version : Version) (dumps : List Image) (call : ℕ) (made : Invocation) (action : Action)
    → call_at state.events call ≡ Some made → operation_in (request_made made) ≡ Some action
    → operation_of (recording state version dumps) call ≡ Some action
operation_at state version dumps call made action e f = operation_is state version dumps call made e ∙ f

pub clean_log : (state : State) (version : Version) (dumps : List Image) → IsReached state → HasCleanLog (recording state version dumps)
clean_log state version dumps reached = record {
  no_thread_open = thread_open;
  no_such_call = λ index h. let (made, before, is, right) = reached.replies index h.0 h.1 in h.2 (before, is_some_from (call_at state.events h.0.call) made is);
  none_twice = λ index h. reached.calls.once h.2.0 index h.0.call h.2.1 (answered_to state version dumps h.2.0 h.0.call h.2.2) (h.0, h.1, refl);
  updates_alone = λ place h. not_an_update place h.0 h.2 (at_map (λ (entry : LogEntry). entry.call) state.log place h.0 h.1);
  placed_once = λ place h. distinct_apart (calls_of state.log) h.2.0 place h.0 reached.distinct h.2.1 h.2.2 h.1;
  all_placed = not_placed;
  none_past_log = past_log;
} where
  thread_open : (index : ℕ) → HasFault (recording state version dumps) (ThreadOpen index) → ⊥
  thread_open index h =
      let (reply, before, answers) = reached.calls.in_turn h.earlier index h.earlier_made h.made h.is_earlier h.is_earlier_made h.is_made h.same_thread in
      h.not_answered reply before (answers_to state version dumps reply h.earlier answers)

  not_an_update : (place call : ℕ) → (IsUpdate (recording state version dumps) call → ⊥)
      → (entry : LogEntry) × At state.log place entry × (entry.call ≡ call) → ⊥
  not_an_update place call h (entry, at, e) =
      let (made, is, asks, behind) = reached.entries place entry at in
      h (is_some_from (operation_of (recording state version dumps) call) entry.op
      (operation_at state version dumps call made entry.op (ap (call_at state.events) (sym e) ∙ is) (ap operation_in asks)))

  not_placed : (index : ℕ) → HasFault (recording state version dumps) (NotPlaced index) → ⊥
  not_placed index (reply, e, (is_update, out)) =
      let (made, before, is, right) = reached.replies index reply e in
      let (action, asks) = the_some (operation_of (recording state version dumps) reply.call) is_update in
      let (entry, at, same) = right.placed action (sym (operation_is state version dumps reply.call made is) ∙ asks) in
      out (at_mapped (λ (x : LogEntry). x.call) state.log reply.at entry at ∙ ap Some same)

  past_log : (index : ℕ) → HasFault (recording state version dumps) (PastLog index) → ⊥
  past_log index (reply, e, (is_read, past)) =
      let (made, before, is, right) = reached.replies index reply e in
      let long = length-map state.log (λ (entry : LogEntry). entry.call) in
      omega (arith, at_within_reach (request_made made) reply.at, right.known, reached.completed, long, past)
