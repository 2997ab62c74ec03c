-- The recording of a state, by the state's parts.
use Rattle.std.proofs.Common.{◌≡◌, ℕ, zero, suc, ◌+◌, ◌<◌, ◌≤◌, List, [], ◌∷◌, map, nat_eq, Option, Some, None, option_and_then, refl, ap}
use Rattle.std.proofs.Common.{sym, subst, arith}
use Rattle.std.specs.List.{IsDistinct, AllZip}
use Rattle.std.specs.Option.{option_map_or}
use Rattle.std.proofs.lemmas.Option.{same_Some, none-some}
use Rattle.vs_types.specs.declared.requests.op.Action.{Action}
use Rattle.vs_walk.specs.Dump.{Image}
use Rattle.nr_trace.specs.Recording.{Recording}
use Rattle.nr_trace.specs.Calls.{Invocation, operation_in, request_in, unordered_in, Response, Answers}
use Rattle.nr_trace.specs.Orders.{known_by}
use Rattle.nr_trace.specs.declared.recordings.event.Asked.{Asked}
use Rattle.nr_trace.specs.declared.recordings.event.Asked.TheVariants as askeds
use Rattle.nr_trace.specs.declared.formats.version.Version.{Version}
use Rattle.nr_trace.proofs.LawsOfCalls.{reply_that_answers, answers_from}
use Rattle.nr_trace.proofs.LawsOfLists.{absent_not_in}
use Rattle.nr_core.specs.State.{State}
use Rattle.nr_core.specs.Run.{IsRecordingOf, IsDumpOfReplica}
use Rattle.nr_core.specs.inside.Reached.{query_in, request_made, At, call_at, RepliesTo, reach, calls_of}
use Rattle.nr_core.proofs.reached.Places.{in_at}

abbrev pub recording : State → Version → List Image → Recording
recording state version dumps = record {
  version = version;
  layout = state.layout;
  start = None;
  log = calls_of state.log;
  events = state.events;
  dumps = dumps;
}

-- what holds of such a recording, with dumps of the replicas, holds of each recording of the state
pub of_recording : (P : Recording → Type 0) (state : State) (trace : Recording) → IsRecordingOf state trace
    → ((version : Version) (dumps : List Image) → AllZip (IsDumpOfReplica state.layout.depth) state.replicas dumps → P (recording state version dumps))
    → P trace
of_recording P state trace is h = subst P same (h trace.version trace.dumps is.dumps) where
  same : recording state trace.version trace.dumps ≡ trace
  same = λ i. record {
    version = trace.version;
    layout = sym is.layout i;
    start = sym is.start i;
    log = sym is.log i;
    events = sym is.events i;
    dumps = trace.dumps;
  }

pub answered_to : (state : State) (version : Version) (dumps : List Image) (index call : ℕ) → Answers (recording state version dumps) index call
    → RepliesTo state.events index call
answered_to state version dumps index call h = reply_that_answers (recording state version dumps) index call h

pub answers_to : (state : State) (version : Version) (dumps : List Image) (index call : ℕ) → RepliesTo state.events index call
    → Answers (recording state version dumps) index call
answers_to state version dumps index call (reply, e, f) = answers_from (recording state version dumps) index call reply e f

pub at_map : {X Y : Type 0} (f : X → Y) (xs : List X) (i : ℕ) (y : Y) → At (map f xs) i y → (x : X) × At xs i x × (f x ≡ y)
at_map f [] i y e = absurd (none-some y e)
at_map f (x ∷ xs) zero y e = (x, refl, same_Some (f x) y e)
at_map f (x ∷ xs) (suc i) y e = at_map f xs i y e

pub distinct_apart : (xs : List ℕ) (i j x : ℕ) → IsDistinct nat_eq xs → i < j → At xs i x → At xs j x → ⊥
unfolding IsDistinct
distinct_apart [] i j x h l e f = none-some x e
distinct_apart (y ∷ xs) i zero x h l e f = absurd (omega arith)
distinct_apart (y ∷ xs) zero (suc j) x h l e f =
    absent_not_in y xs h.0 (subst (λ z. Rattle.nr_trace.proofs.LawsOfLists.In z xs) (sym (same_Some y x e)) (in_at xs j x f))
distinct_apart (y ∷ xs) (suc i) (suc j) x h l e f = distinct_apart xs i j x h.1 (omega arith) e f

-- no more is known by a reply than what its answer reaches; by one to a touch nothing is
known_by_call : (asked : Asked) (at : ℕ)
    → option_map_or (λ (action : Action). at + 1) (option_and_then operation_in (request_in asked))
    (option_map_or (λ (touch : Asked). 0) (unordered_in asked) at) ≤ reach (query_in asked) at
known_by_call (askeds.Request request) at = by_kind (operation_in request) where
  by_kind : (operation : Option Action) → option_map_or (λ (action : Action). at + 1) operation at ≤ option_map_or (λ (action : Action). at + 1) operation at
  by_kind (Some action) = omega arith
  by_kind None = omega arith
known_by_call asked at = omega arith

pub known_is_reach : (state : State) (version : Version) (dumps : List Image) (reply : Response) (made : Invocation)
    → call_at state.events reply.call ≡ Some made
    → known_by (recording state version dumps) reply ≤ reach (request_made made) reply.at
known_is_reach state version dumps reply made e =
    let given : (o : Option Invocation) → ℕ =
    λ o. option_map_or (λ (action : Action). reply.at + 1) (option_and_then operation_in (option_and_then (λ (m : Invocation). request_in m.asked) o))
    (option_map_or (λ (touch : Asked). 0) (option_and_then (λ (m : Invocation). unordered_in m.asked) o) reply.at) in
    let same : known_by (recording state version dumps) reply ≡ given (Some made) = ap given e in
    subst (λ (n : ℕ). n ≤ reach (request_made made) reply.at) (sym same) (known_by_call made.asked reply.at)
