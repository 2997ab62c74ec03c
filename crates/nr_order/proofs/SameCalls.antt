-- A trace, and the one that has an order as its log, ask and answer the same.
use Rattle.std.proofs.Common.{◌≡◌, ℕ, ◌==◌, ◌⊎◌, inl, inr, List, slice_get, Option, Some, None, IsSome, is_some, option_and_then, option_map}
use Rattle.std.proofs.Common.{refl, ap, sym, ◌∙◌, subst, eq-eqb, ne_eqb, if◌then◌else◌}
use Rattle.std.specs.Prelude.{filter_map}
use Rattle.std.proofs.lemmas.Bool.{cases_eq}
use Rattle.std.proofs.lemmas.Option.{slice_get-map}
use Rattle.vs_types.specs.Space.{Space}
use Rattle.vs_types.specs.Step.{after_all}
use Rattle.nr_trace.specs.Recording.{Recording}
use Rattle.nr_trace.specs.Calls.{Invocation, made_by, call_of, request_in, operation_in, read_address, request_of, operation_of, address_of}
use Rattle.nr_trace.specs.Calls.{IsCall, IsUpdate, IsRead, IsOrdered, Response, reply_in, reply_of, reply_to, IsAnswered, Answers, Precedes}
use Rattle.nr_trace.specs.Orders.{updates, operations, space_from}
use Rattle.nr_trace.specs.declared.recordings.event.Event.{Event}
use Rattle.nr_trace.specs.declared.recordings.event.Event.TheVariants.{Reply}
use Rattle.nr_trace.proofs.LawsOfCalls.{answers_from, reply_that_answers}
use Rattle.nr_trace.proofs.Lists.{filter_same, filter_map_same, filter_map-map, of_mapped, some_of_mapped, mapped_some}
use Rattle.nr_order.specs.WithOrder.{placed_by, updates_before, with_order}

module _ (trace : Recording) (order : List ℕ) where
  -- what a reply says of its call, where the order is the log
  abbrev pub placed : Response → Response
  placed reply = record { call = reply.call; at = updates_before trace order reply.call; answer = reply.answer }

  -- ---- calls

  made_placed : (o : Option Event) → option_and_then made_by (option_map (placed_by trace order) o) ≡ option_and_then made_by o
  made_placed None = refl
  made_placed (Some (Reply call at answer)) = refl
  made_placed (Some event) = refl

  pub same_call : (call : ℕ) → call_of (with_order trace order) call ≡ call_of trace call
  same_call call =
      ap (option_and_then made_by) (slice_get-map (placed_by trace order) trace.events call) ∙ made_placed (slice_get trace.events call)

  pub same_request : (call : ℕ) → request_of (with_order trace order) call ≡ request_of trace call
  same_request call = ap (option_and_then (λ (made : Invocation). request_in made.asked)) (same_call call)

  pub same_operation : (call : ℕ) → operation_of (with_order trace order) call ≡ operation_of trace call
  same_operation call = ap (option_and_then operation_in) (same_request call)

  pub same_address : (call : ℕ) → address_of (with_order trace order) call ≡ address_of trace call
  same_address call = ap (option_and_then read_address) (same_request call)

  pub call_to : (call : ℕ) → IsCall trace call → IsCall (with_order trace order) call
  call_to call is = subst IsSome (sym (same_call call)) is

  pub call_from : (call : ℕ) → IsCall (with_order trace order) call → IsCall trace call
  call_from call is = subst IsSome (same_call call) is

  pub update_to : (call : ℕ) → IsUpdate trace call → IsUpdate (with_order trace order) call
  update_to call is = subst IsSome (sym (same_operation call)) is

  pub update_from : (call : ℕ) → IsUpdate (with_order trace order) call → IsUpdate trace call
  update_from call is = subst IsSome (same_operation call) is

  pub read_to : (call : ℕ) → IsRead trace call → IsRead (with_order trace order) call
  read_to call is = subst IsSome (sym (same_address call)) is

  pub ordered_to : (call : ℕ) → IsOrdered trace call → IsOrdered (with_order trace order) call
  ordered_to call (inl is) = inl (update_to call is)
  ordered_to call (inr is) = inr (read_to call is)

  pub ordered_from : (call : ℕ) → IsOrdered (with_order trace order) call → IsOrdered trace call
  ordered_from call (inl is) = inl (update_from call is)
  ordered_from call (inr is) = inr (subst IsSome (same_address call) is)

  -- ---- replies

  reply_in_placed : (event : Event) → reply_in (placed_by trace order event) ≡ option_map placed (reply_in event)
  reply_in_placed (Reply call at answer) = refl
  reply_in_placed event = refl

  replies_placed : (o : Option Event) → option_and_then reply_in (option_map (placed_by trace order) o) ≡ option_map placed (option_and_then reply_in o)
  replies_placed None = refl
  replies_placed (Some event) = reply_in_placed event

  pub same_reply : (index : ℕ) → reply_of (with_order trace order) index ≡ option_map placed (reply_of trace index)
  same_reply index =
      ap (option_and_then reply_in) (slice_get-map (placed_by trace order) trace.events index) ∙ replies_placed (slice_get trace.events index)

  pub reply_to_it : (index : ℕ) (reply : Response) → reply_of trace index ≡ Some reply → reply_of (with_order trace order) index ≡ Some (placed reply)
  reply_to_it index reply is = same_reply index ∙ ap (option_map placed) is

  abbrev naming : ℕ → Event → Option Response
  naming call event = option_and_then (λ (reply : Response). if reply.call == call then Some reply else None) (reply_in event)

  named_placed : (call : ℕ) (o : Option Response)
      → option_and_then (λ (reply : Response). if reply.call == call then Some reply else None) (option_map placed o)
      ≡ option_map placed (option_and_then (λ (reply : Response). if reply.call == call then Some reply else None) o)
  named_placed call None = refl
  named_placed call (Some reply) = by_case (cases_eq reply.call call) where
    by_case : (reply.call ≡ call) ⊎ (reply.call ≡ call → ⊥)
        → (if reply.call == call then Some (placed reply) else None) ≡ option_map placed (if reply.call == call then Some reply else None)
    by_case (inl e) = let t = eq-eqb reply.call call e in rw t refl
    by_case (inr n) = let t = ne_eqb reply.call call n in rw t refl

  naming_placed : (call : ℕ) (event : Event) → naming call (placed_by trace order event) ≡ option_map placed (naming call event)
  naming_placed call event =
      ap (option_and_then (λ (reply : Response). if reply.call == call then Some reply else None)) (reply_in_placed event)
      ∙ named_placed call (reply_in event)

  pub same_reply_to : (call : ℕ) → reply_to (with_order trace order) call ≡ option_map placed (reply_to trace call)
  same_reply_to call =
      ap (λ (replies : List Response). slice_get replies 0)
      (filter_map-map (naming call) (placed_by trace order) (naming call) placed trace.events (naming_placed call))
      ∙ slice_get-map placed (filter_map (naming call) trace.events) 0

  pub answered_to : (call : ℕ) → IsAnswered trace call → IsAnswered (with_order trace order) call
  answered_to call is = subst IsSome (sym (same_reply_to call)) (mapped_some placed (reply_to trace call) is)

  pub answered_from : (call : ℕ) → IsAnswered (with_order trace order) call → IsAnswered trace call
  answered_from call is = some_of_mapped placed (reply_to trace call) (subst IsSome (same_reply_to call) is)

  pub answers_to : (index call : ℕ) → Answers trace index call → Answers (with_order trace order) index call
  answers_to index call h =
      let (reply, is, named) = reply_that_answers trace index call h in
      answers_from (with_order trace order) index call (placed reply) (reply_to_it index reply is) named

  pub answers_of : (index call : ℕ) → Answers (with_order trace order) index call → Answers trace index call
  answers_of index call h =
      let (reply, is, named) = reply_that_answers (with_order trace order) index call h in
      let (own, own_is, same) = of_mapped placed (reply_of trace index) reply (sym (same_reply index) ∙ is) in
      answers_from trace index call own own_is (ap (λ (r : Response). r.call) same ∙ named)

  pub precedes_to : (first second : ℕ) → Precedes trace first second → Precedes (with_order trace order) first second
  precedes_to first second (is, index, before, answers) = (call_to second is, index, before, answers_to index first answers)

  pub precedes_from : (first second : ℕ) → Precedes (with_order trace order) first second → Precedes trace first second
  precedes_from first second (is, index, before, answers) = (call_from second is, index, before, answers_of index first answers)

  -- ---- spaces

  pub same_updates : (calls : List ℕ) → updates (with_order trace order) calls ≡ updates trace calls
  same_updates calls =
      filter_same (λ call. is_some (operation_of (with_order trace order) call)) (λ call. is_some (operation_of trace call)) calls
      (λ call i. ap is_some (same_operation call))

  pub same_operations : (calls : List ℕ) → operations (with_order trace order) calls ≡ operations trace calls
  same_operations calls = filter_map_same (operation_of (with_order trace order)) (operation_of trace) calls (λ call i. same_operation call)

  pub same_space : (start : Space) (calls : List ℕ) → space_from start (with_order trace order) calls ≡ space_from start trace calls
  same_space start calls = ap (after_all trace.layout.depth trace.layout.tables start) (same_operations calls)
