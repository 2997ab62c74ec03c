-- One event or one place more: how the floor and the space go on.
use Rattle.std.proofs.Common.{◌≡◌, ℕ, suc, ◌+◌, max, List, [], ◌∷◌, take, map, fold, slice_get, Option, Some, None, option_to_list, option_and_then, refl}
use Rattle.std.proofs.Common.{ap, ◌∙◌, add-one}
use Rattle.std.specs.Prelude.{filter_map}
use Rattle.std.proofs.lemmas.List.{map-append}
use Rattle.std.proofs.lemmas.List.Elements.{filter_map-append}
use Rattle.std.proofs.lemmas.Grind.{fold-append}
use Rattle.vs_types.specs.Space.{Space}
use Rattle.vs_types.specs.Step.{step, after_all}
use Rattle.vs_types.specs.declared.requests.op.Action.{Action}
use Rattle.vs_types.proofs.Afterwards.{after_all-append}
use Rattle.nr_trace.specs.Recording.{Recording}
use Rattle.nr_trace.specs.Calls.{operation_of, Response, reply_in, reply_of}
use Rattle.nr_trace.specs.Orders.{operations, space_from, known_by, floor}
use Rattle.nr_trace.specs.declared.recordings.event.Event.{Event}
use Rattle.nr_trace.proofs.LawsOfLists.{take-next}

-- what is known by the replies of one event
abbrev known_in : Recording → Option Event → List ℕ
known_in trace o = map (known_by trace) (filter_map reply_in (option_to_list o))

floor_next : (trace : Recording) (index : ℕ) → floor trace (suc index) ≡ fold max (floor trace index) (known_in trace (slice_get trace.events index))
floor_next trace index =
    ap (λ (es : List Event). fold max 0 (map (known_by trace) (filter_map reply_in es))) (take-next index trace.events)
    ∙ ap (λ (rs : List Response). fold max 0 (map (known_by trace) rs))
    (filter_map-append reply_in (take index trace.events) (option_to_list (slice_get trace.events index)))
    ∙ ap (fold max 0) (map-append (known_by trace) (filter_map reply_in (take index trace.events))
    (filter_map reply_in (option_to_list (slice_get trace.events index))))
    ∙ fold-append max 0 (map (known_by trace) (filter_map reply_in (take index trace.events))) (known_in trace (slice_get trace.events index))

known_of_reply : (trace : Recording) (o : Option Event) (reply : Response) (n : ℕ) → option_and_then reply_in o ≡ Some reply
    → fold max n (known_in trace o) ≡ max n (known_by trace reply)
known_of_reply trace None reply n e = absurd cc
known_of_reply trace (Some event) reply n e = rw e refl

known_of_other : (trace : Recording) (o : Option Event) (n : ℕ) → option_and_then reply_in o ≡ None → fold max n (known_in trace o) ≡ n
known_of_other trace None n e = refl
known_of_other trace (Some event) n e = rw e refl

-- a reply raises the floor of what is made after it to what is known by it
pub floor_after_reply : (trace : Recording) (index : ℕ) (reply : Response) → reply_of trace index ≡ Some reply
    → floor trace (index + 1) ≡ max (floor trace index) (known_by trace reply)
floor_after_reply trace index reply e =
    ap (floor trace) (add-one index) ∙ floor_next trace index ∙ known_of_reply trace (slice_get trace.events index) reply (floor trace index) e

-- and an event that is no reply leaves it
pub floor_after_other : (trace : Recording) (index : ℕ) → reply_of trace index ≡ None → floor trace (index + 1) ≡ floor trace index
floor_after_other trace index e =
    ap (floor trace) (add-one index) ∙ floor_next trace index ∙ known_of_other trace (slice_get trace.events index) (floor trace index) e

pub floor_at_start : (trace : Recording) → floor trace 0 ≡ 0
floor_at_start trace = refl

one_operation : (trace : Recording) (o : Option ℕ) (call : ℕ) (action : Action) → o ≡ Some call → operation_of trace call ≡ Some action
    → operations trace (option_to_list o) ≡ action ∷ []
one_operation trace o call action e f = rw (e, f) refl

-- the space after one place more
pub space_next : (start : Space) (trace : Recording) (place call : ℕ) (action : Action) → slice_get trace.log place ≡ Some call
    → operation_of trace call ≡ Some action
    → space_from start trace (take (place + 1) trace.log)
    ≡ (step trace.layout.depth trace.layout.tables (space_from start trace (take place trace.log)) action).space
space_next start trace place call action e f =
    let more = one_operation trace (slice_get trace.log place) call action e f in
    ap (λ n. space_from start trace (take n trace.log)) (add-one place)
    ∙ ap (space_from start trace) (take-next place trace.log)
    ∙ ap (after_all trace.layout.depth trace.layout.tables start)
    (filter_map-append (operation_of trace) (take place trace.log) (option_to_list (slice_get trace.log place)))
    ∙ after_all-append trace.layout.depth trace.layout.tables start (operations trace (take place trace.log))
    (operations trace (option_to_list (slice_get trace.log place)))
    ∙ ap (after_all trace.layout.depth trace.layout.tables (space_from start trace (take place trace.log))) more
