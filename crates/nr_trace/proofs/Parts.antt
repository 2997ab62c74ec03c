-- The calls and replies of a joined run: those of the first, and behind them those of the second.
use Rattle.std.proofs.Common.{◌≡◌, ℕ, ◌+◌, ◌<◌, ◌⊎◌, inl, inr, ◌==◌, List, [], ◌++◌, length, map, slice_get, Option, Some, None, IsSome, option_and_then}
use Rattle.std.proofs.Common.{option_map, refl, ap, ap₂, sym, ◌∙◌, subst, arith, eq-eqb, ne_eqb, if◌then◌else◌}
use Rattle.std.specs.Prelude.{filter_map}
use Rattle.std.proofs.lemmas.Bool.{cases_eq}
use Rattle.std.proofs.lemmas.List.{append-nil}
use Rattle.std.proofs.lemmas.List.Elements.{filter_map-append}
use Rattle.std.proofs.lemmas.Option.{slice_get-map}
use Rattle.vs_types.proofs.Lists.{get_left, get_right}
use Rattle.nr_trace.specs.Recording.{Recording}
use Rattle.nr_trace.specs.Calls.{Invocation, made_by, call_of, request_in, unordered_in, operation_in, read_address, request_of, operation_of, address_of}
use Rattle.nr_trace.specs.Calls.{touch_of, IsCall, IsUpdate, IsRead, Response, reply_in, reply_of, reply_to, IsAnswered, Answers}
use Rattle.nr_trace.specs.declared.recordings.event.Event.{Event}
use Rattle.nr_trace.specs.declared.recordings.event.Event.TheVariants.{Reply}
use Rattle.nr_trace.proofs.LawsOfCalls.{answers_from, reply_below, reply_that_answers}
use Rattle.nr_trace.specs.Joined.{event_behind, joined_traces}
use Rattle.nr_trace.proofs.Lists.{split_at, of_mapped, some_of_mapped, mapped_some, filter_map-map, none_given, none_of_mapped}

-- ---- calls

made_behind : (events places : ℕ) (o : Option Event) → option_and_then made_by (option_map (event_behind events places) o) ≡ option_and_then made_by o
made_behind events places None = refl
made_behind events places (Some (Reply call at answer)) = refl
made_behind events places (Some event) = refl

pub call_left : (first second : Recording) (call : ℕ) → call < length first.events → call_of (joined_traces first second) call ≡ call_of first call
call_left first second call l =
    ap (option_and_then made_by) (get_left first.events (map (event_behind (length first.events) (length first.log)) second.events) call l)

pub call_right : (first second : Recording) (call : ℕ) → call_of (joined_traces first second) (length first.events + call) ≡ call_of second call
call_right first second call =
    ap (option_and_then made_by) (get_right first.events (map (event_behind (length first.events) (length first.log)) second.events) call
    ∙ slice_get-map (event_behind (length first.events) (length first.log)) second.events call)
    ∙ made_behind (length first.events) (length first.log) (slice_get second.events call)

pub request_left : (first second : Recording) (call : ℕ) → call < length first.events → request_of (joined_traces first second) call ≡ request_of first call
request_left first second call l = ap (option_and_then (λ (made : Invocation). request_in made.asked)) (call_left first second call l)

pub request_right : (first second : Recording) (call : ℕ) → request_of (joined_traces first second) (length first.events + call) ≡ request_of second call
request_right first second call = ap (option_and_then (λ (made : Invocation). request_in made.asked)) (call_right first second call)

pub operation_left : (first second : Recording) (call : ℕ) → call < length first.events
    → operation_of (joined_traces first second) call ≡ operation_of first call
operation_left first second call l = ap (option_and_then operation_in) (request_left first second call l)

pub operation_right : (first second : Recording) (call : ℕ)
    → operation_of (joined_traces first second) (length first.events + call) ≡ operation_of second call
operation_right first second call = ap (option_and_then operation_in) (request_right first second call)

pub address_left : (first second : Recording) (call : ℕ) → call < length first.events → address_of (joined_traces first second) call ≡ address_of first call
address_left first second call l = ap (option_and_then read_address) (request_left first second call l)

pub address_right : (first second : Recording) (call : ℕ) → address_of (joined_traces first second) (length first.events + call) ≡ address_of second call
address_right first second call = ap (option_and_then read_address) (request_right first second call)

pub touch_left : (first second : Recording) (call : ℕ) → call < length first.events → touch_of (joined_traces first second) call ≡ touch_of first call
touch_left first second call l = ap (option_and_then (λ (made : Invocation). unordered_in made.asked)) (call_left first second call l)

pub touch_right : (first second : Recording) (call : ℕ) → touch_of (joined_traces first second) (length first.events + call) ≡ touch_of second call
touch_right first second call = ap (option_and_then (λ (made : Invocation). unordered_in made.asked)) (call_right first second call)

-- ---- replies

abbrev pub reply_behind : ℕ → ℕ → Response → Response
reply_behind events places reply = record { call = events + reply.call; at = places + reply.at; answer = reply.answer }

reply_in_behind : (events places : ℕ) (event : Event) → reply_in (event_behind events places event) ≡ option_map (reply_behind events places) (reply_in event)
reply_in_behind events places (Reply call at answer) = refl
reply_in_behind events places event = refl

replies_behind : (events places : ℕ) (o : Option Event)
    → option_and_then reply_in (option_map (event_behind events places) o) ≡ option_map (reply_behind events places) (option_and_then reply_in o)
replies_behind events places None = refl
replies_behind events places (Some event) = reply_in_behind events places event

pub reply_left : (first second : Recording) (index : ℕ) → index < length first.events → reply_of (joined_traces first second) index ≡ reply_of first index
reply_left first second index l =
    ap (option_and_then reply_in) (get_left first.events (map (event_behind (length first.events) (length first.log)) second.events) index l)

pub reply_right : (first second : Recording) (index : ℕ)
    → reply_of (joined_traces first second) (length first.events + index)
    ≡ option_map (reply_behind (length first.events) (length first.log)) (reply_of second index)
reply_right first second index =
    ap (option_and_then reply_in) (get_right first.events (map (event_behind (length first.events) (length first.log)) second.events) index
    ∙ slice_get-map (event_behind (length first.events) (length first.log)) second.events index)
    ∙ replies_behind (length first.events) (length first.log) (slice_get second.events index)

-- a reply of the second run, as the joined one has it
pub reply_from_right : (first second : Recording) (index : ℕ) (reply : Response)
    → reply_of (joined_traces first second) (length first.events + index) ≡ Some reply
    → (own : Response) × (reply_of second index ≡ Some own) × (reply_behind (length first.events) (length first.log) own ≡ reply)
reply_from_right first second index reply is =
    of_mapped (reply_behind (length first.events) (length first.log)) (reply_of second index) reply (sym (reply_right first second index) ∙ is)

-- every reply is to a call with a lower number
abbrev pub HasEarlierCalls : Recording → Type 0
HasEarlierCalls trace = (index : ℕ) (reply : Response) → reply_of trace index ≡ Some reply → reply.call < index

-- ---- which event answers a call

pub answers_left : (first second : Recording) (index call : ℕ) → index < length first.events → Answers (joined_traces first second) index call
    → Answers first index call
answers_left first second index call l h =
    let (reply, is, named) = reply_that_answers (joined_traces first second) index call h in
    answers_from first index call reply (sym (reply_left first second index l) ∙ is) named

pub answers_to_left : (first second : Recording) (index call : ℕ) → Answers first index call → Answers (joined_traces first second) index call
answers_to_left first second index call h =
    let (reply, is, named) = reply_that_answers first index call h in
    answers_from (joined_traces first second) index call reply (reply_left first second index (reply_below first index reply is) ∙ is) named

pub answers_right : (first second : Recording) (index call : ℕ)
    → Answers (joined_traces first second) (length first.events + index) (length first.events + call)
    → Answers second index call
answers_right first second index call h =
    let (reply, is, named) = reply_that_answers (joined_traces first second) (length first.events + index) (length first.events + call) h in
    let (own, own_is, same) = reply_from_right first second index reply is in
    let number : length first.events + own.call ≡ reply.call = ap (λ (r : Response). r.call) same in
    answers_from second index call own own_is (omega arith)

pub answers_to_right : (first second : Recording) (index call : ℕ) → Answers second index call
    → Answers (joined_traces first second) (length first.events + index) (length first.events + call)
answers_to_right first second index call h =
    let (own, own_is, named) = reply_that_answers second index call h in
    answers_from (joined_traces first second) (length first.events + index) (length first.events + call)
    (reply_behind (length first.events) (length first.log) own)
    (reply_right first second index ∙ ap (option_map (reply_behind (length first.events) (length first.log))) own_is)
    (ap (λ c. length first.events + c) named)

not_behind : (first second : Recording) (index call : ℕ) → call < length first.events
    → Answers (joined_traces first second) (length first.events + index) call → ⊥
not_behind first second index call l h =
    let (reply, is, named) = reply_that_answers (joined_traces first second) (length first.events + index) call h in
    let (own, own_is, same) = reply_from_right first second index reply is in
    let number : length first.events + own.call ≡ reply.call = ap (λ (r : Response). r.call) same in
    omega arith

-- a call of the first run is answered in it alone
pub answered_left : (first second : Recording) (index call : ℕ) → call < length first.events → Answers (joined_traces first second) index call
    → (index < length first.events) × Answers first index call
answered_left first second index call l h = by_side (split_at (length first.events) index) where
  by_side : (index < length first.events) ⊎ ((k : ℕ) × (index ≡ length first.events + k)) → (index < length first.events) × Answers first index call
  by_side (inl m) = (m, answers_left first second index call m h)
  by_side (inr (k, e)) = absurd (not_behind first second k call l (subst (λ i. Answers (joined_traces first second) i call) e h))

not_before : (first second : Recording) (index call : ℕ) → HasEarlierCalls first → index < length first.events
    → Answers (joined_traces first second) index (length first.events + call) → ⊥
not_before first second index call earlier l h =
    let (reply, is, named) = reply_that_answers first index (length first.events + call) (answers_left first second index (length first.events + call) l h) in
    let lower : reply.call < index = earlier index reply is in
    omega arith

-- and one of the second in that alone
pub answered_right : (first second : Recording) (index call : ℕ) → HasEarlierCalls first
    → Answers (joined_traces first second) index (length first.events + call)
    → (own : ℕ) × (index ≡ length first.events + own) × Answers second own call
answered_right first second index call earlier h = by_side (split_at (length first.events) index) where
  by_side : (index < length first.events) ⊎ ((k : ℕ) × (index ≡ length first.events + k))
      → (own : ℕ) × (index ≡ length first.events + own) × Answers second own call
  by_side (inl l) = absurd (not_before first second index call earlier l h)
  by_side (inr (k, e)) =
      (k, e, answers_right first second k call (subst (λ i. Answers (joined_traces first second) i (length first.events + call)) e h))

-- ---- first replies

abbrev naming : ℕ → Event → Option Response
naming call event = option_and_then (λ (reply : Response). if reply.call == call then Some reply else None) (reply_in event)

named_behind : (events places call : ℕ) (o : Option Response)
    → option_and_then (λ (reply : Response). if reply.call == (events + call) then Some reply else None) (option_map (reply_behind events places) o)
    ≡ option_map (reply_behind events places) (option_and_then (λ (reply : Response). if reply.call == call then Some reply else None) o)
named_behind events places call None = refl
named_behind events places call (Some reply) = by_case (cases_eq reply.call call) where
  by_case : (reply.call ≡ call) ⊎ (reply.call ≡ call → ⊥)
      → (if (events + reply.call) == (events + call) then Some (reply_behind events places reply) else None)
      ≡ option_map (reply_behind events places) (if reply.call == call then Some reply else None)
  by_case (inl e) =
      let t = eq-eqb reply.call call e in
      let s = eq-eqb (events + reply.call) (events + call) (ap (λ c. events + c) e) in
      rw (t, s) refl
  by_case (inr n) =
      let t = ne_eqb reply.call call n in
      let s = ne_eqb (events + reply.call) (events + call) (λ e. n (omega arith)) in
      rw (t, s) refl

naming_behind : (events places call : ℕ) (event : Event)
    → naming (events + call) (event_behind events places event) ≡ option_map (reply_behind events places) (naming call event)
naming_behind events places call event =
    ap (option_and_then (λ (reply : Response). if reply.call == (events + call) then Some reply else None)) (reply_in_behind events places event)
    ∙ named_behind events places call (reply_in event)

none_named : (events places call : ℕ) (o : Option Response) → call < events
    → option_and_then (λ (reply : Response). if reply.call == call then Some reply else None) (option_map (reply_behind events places) o) ≡ None
none_named events places call None l = refl
none_named events places call (Some reply) l =
    let t = ne_eqb (events + reply.call) call (λ e. omega arith) in
    rw t refl

none_naming : (events places call : ℕ) → call < events → (event : Event) → naming call (event_behind events places event) ≡ None
none_naming events places call l event =
    ap (option_and_then (λ (reply : Response). if reply.call == call then Some reply else None)) (reply_in_behind events places event)
    ∙ none_named events places call (reply_in event) l

pub reply_to_left : (first second : Recording) (call : ℕ) → call < length first.events → reply_to (joined_traces first second) call ≡ reply_to first call
reply_to_left first second call l =
    ap (λ (replies : List Response). slice_get replies 0)
    (filter_map-append (naming call) first.events (map (event_behind (length first.events) (length first.log)) second.events)
    ∙ ap (λ (replies : List Response). filter_map (naming call) first.events ++ replies)
    (none_of_mapped (naming call) (event_behind (length first.events) (length first.log)) second.events
    (none_naming (length first.events) (length first.log) call l))
    ∙ append-nil (filter_map (naming call) first.events))

not_naming : (call : ℕ) (o : Option Event) → ((reply : Response) → option_and_then reply_in o ≡ Some reply → reply.call ≡ call → ⊥)
    → option_and_then (naming call) o ≡ None
not_naming call None none = refl
not_naming call (Some event) none = by_reply (reply_in event) none where
  by_reply : (o : Option Response) → ((reply : Response) → o ≡ Some reply → reply.call ≡ call → ⊥)
      → option_and_then (λ (reply : Response). if reply.call == call then Some reply else None) o ≡ None
  by_reply None none = refl
  by_reply (Some reply) none =
      let t = ne_eqb reply.call call (none reply refl) in
      rw t refl

none_before : (trace : Recording) (call : ℕ) → HasEarlierCalls trace → filter_map (naming (length trace.events + call)) trace.events ≡ []
none_before trace call earlier =
    none_given (naming (length trace.events + call)) trace.events
    (λ index. not_naming (length trace.events + call) (slice_get trace.events index) (λ reply is named. apart index reply is named)) where
      apart : (index : ℕ) (reply : Response) → reply_of trace index ≡ Some reply → reply.call ≡ length trace.events + call → ⊥
      apart index reply is named =
          let lower : reply.call < index = earlier index reply is in
          let within : index < length trace.events = reply_below trace index reply is in
          omega arith

pub reply_to_right : (first second : Recording) (call : ℕ) → HasEarlierCalls first
    → reply_to (joined_traces first second) (length first.events + call)
    ≡ option_map (reply_behind (length first.events) (length first.log)) (reply_to second call)
reply_to_right first second call earlier =
    ap (λ (replies : List Response). slice_get replies 0)
    (filter_map-append (naming (length first.events + call)) first.events (map (event_behind (length first.events) (length first.log)) second.events)
    ∙ ap₂ ◌++◌ (none_before first call earlier)
    (filter_map-map (naming (length first.events + call)) (event_behind (length first.events) (length first.log)) (naming call)
    (reply_behind (length first.events) (length first.log)) second.events (naming_behind (length first.events) (length first.log) call)))
    ∙ slice_get-map (reply_behind (length first.events) (length first.log)) (filter_map (naming call) second.events) 0

-- ---- what a number is in the joined run, and in its parts

pub is_call_left : (first second : Recording) (call : ℕ) → call < length first.events → IsCall (joined_traces first second) call → IsCall first call
is_call_left first second call l h = subst IsSome (call_left first second call l) h

pub is_call_from_left : (first second : Recording) (call : ℕ) → call < length first.events → IsCall first call → IsCall (joined_traces first second) call
is_call_from_left first second call l h = subst IsSome (sym (call_left first second call l)) h

pub is_call_right : (first second : Recording) (call : ℕ) → IsCall (joined_traces first second) (length first.events + call) → IsCall second call
is_call_right first second call h = subst IsSome (call_right first second call) h

pub is_call_from_right : (first second : Recording) (call : ℕ) → IsCall second call → IsCall (joined_traces first second) (length first.events + call)
is_call_from_right first second call h = subst IsSome (sym (call_right first second call)) h

pub is_update_left : (first second : Recording) (call : ℕ) → call < length first.events → IsUpdate (joined_traces first second) call → IsUpdate first call
is_update_left first second call l h = subst IsSome (operation_left first second call l) h

pub is_update_from_left : (first second : Recording) (call : ℕ) → call < length first.events → IsUpdate first call → IsUpdate (joined_traces first second) call
is_update_from_left first second call l h = subst IsSome (sym (operation_left first second call l)) h

pub is_update_right : (first second : Recording) (call : ℕ) → IsUpdate (joined_traces first second) (length first.events + call) → IsUpdate second call
is_update_right first second call h = subst IsSome (operation_right first second call) h

pub is_update_from_right : (first second : Recording) (call : ℕ) → IsUpdate second call → IsUpdate (joined_traces first second) (length first.events + call)
is_update_from_right first second call h = subst IsSome (sym (operation_right first second call)) h

pub is_read_right : (first second : Recording) (call : ℕ) → IsRead (joined_traces first second) (length first.events + call) → IsRead second call
is_read_right first second call h = subst IsSome (address_right first second call) h

pub is_answered_left : (first second : Recording) (call : ℕ) → call < length first.events → IsAnswered (joined_traces first second) call → IsAnswered first call
is_answered_left first second call l h = subst IsSome (reply_to_left first second call l) h

pub is_answered_from_left : (first second : Recording) (call : ℕ) → call < length first.events → IsAnswered first call
    → IsAnswered (joined_traces first second) call
is_answered_from_left first second call l h = subst IsSome (sym (reply_to_left first second call l)) h

pub is_answered_right : (first second : Recording) (call : ℕ) → HasEarlierCalls first → IsAnswered (joined_traces first second) (length first.events + call)
    → IsAnswered second call
is_answered_right first second call earlier h =
    some_of_mapped (reply_behind (length first.events) (length first.log)) (reply_to second call) (subst IsSome (reply_to_right first second call earlier) h)

pub is_answered_from_right : (first second : Recording) (call : ℕ) → HasEarlierCalls first → IsAnswered second call
    → IsAnswered (joined_traces first second) (length first.events + call)
is_answered_from_right first second call earlier h =
    subst IsSome (sym (reply_to_right first second call earlier)) (mapped_some (reply_behind (length first.events) (length first.log)) (reply_to second call) h)
