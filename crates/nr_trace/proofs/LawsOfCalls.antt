-- Calls, their first replies, and the entries that they come after, where no fault holds of the events, the log or a
-- reply's place.
use Rattle.std.proofs.Common.{◌≡◌, ◌≢◌, ℕ, ◌<◌, ◌≤◌, ◌⊎◌, inl, inr, Bool, true, false}
use Rattle.std.proofs.Common.{◌==◌, List, length, get_or, slice_get, Option, Some, None, is_some, IsSome}
use Rattle.std.proofs.Common.{option_and_then, refl, ap, sym, ◌∙◌, subst, arith, eq-eqb, eqb-true, if◌then◌else◌}
use Rattle.std.proofs.lemmas.Bool.{both_ways, cases_eq, cases_order, cases_lt}
use Rattle.std.proofs.lemmas.Option.{same_Some, none-some, slice_get_within, slice_get-get_or}
use Rattle.vs_types.specs.declared.requests.answer.Answer.{Answer}
use Rattle.vs_types.specs.declared.requests.request.Query.{Query}
use Rattle.vs_types.specs.declared.requests.request.Query.TheVariants.{Update}
use Rattle.nr_trace.specs.Recording.{Recording}
use Rattle.nr_trace.specs.Calls.{Invocation, made_by, call_of, request_in, unordered_in, request_of, operation_in, read_address, operation_of, touch_of}
use Rattle.nr_trace.specs.Calls.{IsCall, IsUpdate, IsRead, IsTouch, IsOrdered}
use Rattle.nr_trace.specs.Calls.{Response, reply_in, reply_of, reply_to, Answers}
use Rattle.nr_trace.specs.Faults.{HasFault, StandsAfter}
use Rattle.nr_trace.specs.Laws.{HasCleanLog}
use Rattle.nr_trace.specs.declared.recordings.event.Event.{Event}
use Rattle.nr_trace.specs.declared.recordings.event.Event.TheVariants.{Reply}
use Rattle.nr_trace.specs.declared.recordings.event.Asked.{Asked}
use Rattle.nr_trace.specs.declared.recordings.event.Asked.TheVariants.{Request}
use Rattle.nr_trace.specs.declared.refusals.fault.Fault.TheVariants.{NoSuchCall}
use Rattle.nr_trace.proofs.LawsOfLists.{first_given, given_first}

-- ---- options

pub the_some : {A : Type 0} (o : Option A) → IsSome o → (x : A) × (o ≡ Some x)
the_some None h = absurd cc
the_some (Some x) h = (x, refl)

pub is_some_from : {A : Type 0} (o : Option A) (x : A) → o ≡ Some x → IsSome o
is_some_from o x e = rw e refl

pub some_or_none : {A : Type 0} (o : Option A) → IsSome o ⊎ (o ≡ None)
some_or_none None = inr refl
some_or_none (Some x) = inl refl

-- ---- kinds of calls

-- a request is an operation or a read
request_kinds : (request : Query) → IsSome (operation_in request) ⊎ IsSome (read_address request)
request_kinds (Update action) = inl refl
request_kinds request = inr refl

made_kinds : (o : Option Invocation) → IsSome o
    → (IsSome (option_and_then operation_in (option_and_then (λ (made : Invocation). request_in made.asked) o))
    ⊎ IsSome (option_and_then read_address (option_and_then (λ (made : Invocation). request_in made.asked) o)))
    ⊎ IsSome (option_and_then (λ (made : Invocation). unordered_in made.asked) o)
made_kinds None h = absurd cc
made_kinds (Some made) h = by_kind made.asked where
  by_kind : (asked : Asked) → (IsSome (option_and_then operation_in (request_in asked)) ⊎ IsSome (option_and_then read_address (request_in asked)))
      ⊎ IsSome (unordered_in asked)
  by_kind (Request request) = inl (request_kinds request)
  by_kind asked = inr refl

pub ordered_or_touch : (trace : Recording) (call : ℕ) → IsCall trace call → IsOrdered trace call ⊎ IsTouch trace call
ordered_or_touch trace call h = made_kinds (call_of trace call) h

-- a call that asks for a request is an update or a read
pub ordered_from_request : (trace : Recording) (call : ℕ) (request : Query) → request_of trace call ≡ Some request → IsOrdered trace call
ordered_from_request trace call request asks =
    subst (λ (o : Option Query). IsSome (option_and_then operation_in o) ⊎ IsSome (option_and_then read_address o)) (sym asks) (request_kinds request)

made_both : (o : Option Query) → IsSome (option_and_then operation_in o) → IsSome (option_and_then read_address o) → ⊥
made_both None h k = cc
made_both (Some (Update action)) h k = cc
made_both (Some request) h k = cc

request_or_touch : (o : Option Invocation) → IsSome (option_and_then (λ (made : Invocation). request_in made.asked) o)
    → IsSome (option_and_then (λ (made : Invocation). unordered_in made.asked) o) → ⊥
request_or_touch None h k = cc
request_or_touch (Some made) h k = by_kind made.asked h k where
  by_kind : (asked : Asked) → IsSome (request_in asked) → IsSome (unordered_in asked) → ⊥
  by_kind (Request request) h k = cc
  by_kind asked h k = cc

pub not_both : (trace : Recording) (call : ℕ) → IsUpdate trace call → IsRead trace call → ⊥
not_both trace call h k = made_both (request_of trace call) h k

then_some : {A B : Type 0} (f : A → Option B) (o : Option A) → IsSome (option_and_then f o) → IsSome o
then_some f None h = absurd cc
then_some f (Some x) h = refl

pub request_is_call : (trace : Recording) (call : ℕ) → IsSome (request_of trace call) → IsCall trace call
request_is_call trace call h = then_some (λ (made : Invocation). request_in made.asked) (call_of trace call) h

-- an update or a read asks for a request
ordered_asks : (trace : Recording) (call : ℕ) → IsOrdered trace call → IsSome (request_of trace call)
ordered_asks trace call (inl h) = then_some operation_in (request_of trace call) h
ordered_asks trace call (inr h) = then_some read_address (request_of trace call) h

pub update_is_call : (trace : Recording) (call : ℕ) → IsUpdate trace call → IsCall trace call
update_is_call trace call h = request_is_call trace call (ordered_asks trace call (inl h))

pub read_is_call : (trace : Recording) (call : ℕ) → IsRead trace call → IsCall trace call
read_is_call trace call h = request_is_call trace call (ordered_asks trace call (inr h))

pub ordered_is_call : (trace : Recording) (call : ℕ) → IsOrdered trace call → IsCall trace call
ordered_is_call trace call h = request_is_call trace call (ordered_asks trace call h)

pub call_within : (trace : Recording) (call : ℕ) → IsCall trace call → call < length trace.events
call_within trace call h =
    let (event, is) = the_some (slice_get trace.events call) (then_some made_by (slice_get trace.events call) h) in
    slice_get_within trace.events call event is

none_from_not_some : {A : Type 0} (o : Option A) → (IsSome o → ⊥) → o ≡ None
none_from_not_some None h = refl
none_from_not_some (Some x) h = absurd (h refl)

pub no_operation : (trace : Recording) (call : ℕ) → IsRead trace call → operation_of trace call ≡ None
no_operation trace call h = none_from_not_some (operation_of trace call) (λ k. not_both trace call k h)

-- an update or a read is no touch
pub ordered_no_touch : (trace : Recording) (call : ℕ) → IsOrdered trace call → touch_of trace call ≡ None
ordered_no_touch trace call h = none_from_not_some (touch_of trace call) (λ k. request_or_touch (call_of trace call) (ordered_asks trace call h) k)

pub update_from_not_not : (trace : Recording) (call : ℕ) → ((IsUpdate trace call → ⊥) → ⊥) → IsUpdate trace call
update_from_not_not trace call h = by_case (some_or_none (operation_of trace call)) where
  by_case : IsUpdate trace call ⊎ (operation_of trace call ≡ None) → IsUpdate trace call
  by_case (inl k) = k
  by_case (inr e) = absurd (h (λ k. both_ways (is_some (operation_of trace call)) (ap is_some e) k))

-- ---- first replies

abbrev naming : ℕ → Event → Option Response
naming call event = option_and_then (λ (reply : Response). if reply.call == call then Some reply else None) (reply_in event)

named : (call : ℕ) (o : Option Response) (reply : Response) → option_and_then (λ (r : Response). if r.call == call then Some r else None) o ≡ Some reply
    → (o ≡ Some reply) × (reply.call ≡ call)
named call None reply e = absurd (none-some reply e)
named call (Some r) reply e = by_test (r.call == call) refl e where
  by_test : (b : Bool) → (r.call == call) ≡ b → (if b then Some r else None) ≡ Some reply → (Some r ≡ Some reply) × (reply.call ≡ call)
  by_test true h k = (k, ap (λ (a : Response). a.call) (sym (same_Some r reply k)) ∙ eqb-true r.call call h)
  by_test false h k = absurd (none-some reply k)

naming_it : (call : ℕ) (o : Option Response) (reply : Response) → o ≡ Some reply → reply.call ≡ call
    → option_and_then (λ (r : Response). if r.call == call then Some r else None) o ≡ Some reply
naming_it call o reply e f =
    let h = eq-eqb reply.call call f in
    rw (e, h) refl

-- a first reply is the reply of some event, and names the call
pub reply_event : (trace : Recording) (call : ℕ) (reply : Response) → reply_to trace call ≡ Some reply
    → (index : ℕ) × (reply_of trace index ≡ Some reply) × (reply.call ≡ call)
reply_event trace call reply e =
    let (index, event, at, gives) = first_given (naming call) trace.events reply e in
    let both = named call (reply_in event) reply gives in
    (index, ap (option_and_then reply_in) at ∙ both.0, both.1)

pub answers_from : (trace : Recording) (index call : ℕ) (reply : Response) → reply_of trace index ≡ Some reply → reply.call ≡ call → Answers trace index call
answers_from trace index call reply e f = is_some_from _ reply (naming_it call (reply_of trace index) reply e f)

pub reply_that_answers : (trace : Recording) (index call : ℕ) → Answers trace index call
    → (reply : Response) × (reply_of trace index ≡ Some reply) × (reply.call ≡ call)
reply_that_answers trace index call h =
    let (reply, is) = the_some _ h in
    let both = named call (reply_of trace index) reply is in
    (reply, both.0, both.1)

pub reply_in_event : (o : Option Event) (reply : Response) → option_and_then reply_in o ≡ Some reply
    → (event : Event) × (o ≡ Some event) × (reply_in event ≡ Some reply)
reply_in_event None reply e = absurd (none-some reply e)
reply_in_event (Some event) reply e = (event, refl, e)

-- the event at an index, as a pattern takes it apart
pub read_event : (trace : Recording) (events : List Event) (i : ℕ) (event shape : Event) → events ≡ trace.events → i < length events
    → event ≡ get_or events i event → event ≡ shape → slice_get trace.events i ≡ Some shape
read_event trace events i event shape same lt read is =
    subst (λ (xs : List Event). slice_get xs i ≡ Some shape) same (slice_get-get_or events i event lt ∙ ap (λ x. Some x) (sym read ∙ is))

pub reply_here : (trace : Recording) (i call at : ℕ) (answer : Answer) → slice_get trace.events i ≡ Some (Reply call at answer)
    → reply_of trace i ≡ Some (record { call = call; at = at; answer = answer })
reply_here trace i call at answer e = ap (option_and_then reply_in) e

-- a reply is one of the events
pub reply_below : (trace : Recording) (index : ℕ) (reply : Response) → reply_of trace index ≡ Some reply → index < length trace.events
reply_below trace index reply is =
    let (event, at, gives) = reply_in_event (slice_get trace.events index) reply is in
    slice_get_within trace.events index event at

pub answers_within : (trace : Recording) (index call : ℕ) → Answers trace index call → index < length trace.events
answers_within trace index call answers =
    let (reply, is, names) = reply_that_answers trace index call answers in
    reply_below trace index reply is

naming_none : (call : ℕ) (o : Option Event)
    → (IsSome (option_and_then (λ (r : Response). if r.call == call then Some r else None) (option_and_then reply_in o)) → ⊥)
    → option_and_then (naming call) o ≡ None
naming_none call None h = refl
naming_none call (Some event) h = none_from_not_some (naming call event) h

-- where no call is answered twice, each reply is the first to its call
pub reply_is_first : (trace : Recording) (index : ℕ) (reply : Response) → HasCleanLog trace → reply_of trace index ≡ Some reply
    → reply_to trace reply.call ≡ Some reply
reply_is_first trace index reply clean e =
    let (event, at, is) = reply_in_event (slice_get trace.events index) reply e in
    given_first (naming reply.call) trace.events reply index event at (naming_it reply.call (reply_in event) reply is refl)
    (λ j l. naming_none reply.call (slice_get trace.events j) (λ h. clean.none_twice index (reply, e, (j, l, h))))

-- a reply to a call that there is comes after it
pub behind_its_call : (trace : Recording) (index : ℕ) (reply : Response) → (HasFault trace (NoSuchCall index) → ⊥) → reply_of trace index ≡ Some reply
    → (reply.call < index) × IsCall trace reply.call
behind_its_call trace index reply such e = by_order (cases_lt reply.call index) (some_or_none (call_of trace reply.call)) where
  too_late : reply.call < index → index ≤ reply.call → ⊥
  too_late h l = omega arith

  by_order : (reply.call < index) ⊎ (index ≤ reply.call) → IsCall trace reply.call ⊎ (call_of trace reply.call ≡ None)
      → (reply.call < index) × IsCall trace reply.call
  by_order (inl l) (inl c) = (l, c)
  by_order (inl l) (inr n) = absurd (such (reply, e, λ h. both_ways (is_some (call_of trace reply.call)) (ap is_some n) h.1))
  by_order (inr l) c = absurd (such (reply, e, λ h. too_late h.0 l))

pub reply_behind_call : (trace : Recording) (index : ℕ) (reply : Response) → HasCleanLog trace → reply_of trace index ≡ Some reply
    → (reply.call < index) × IsCall trace reply.call
reply_behind_call trace index reply clean e = behind_its_call trace index reply (clean.no_such_call index) e

-- ---- places

same_option : (o : Option ℕ) (n : ℕ) → ((o ≢ Some n) → ⊥) → o ≡ Some n
same_option None n h = absurd (h (λ e. none-some n e))
same_option (Some m) n h = by_order (cases_eq m n) where
  by_order : (m ≡ n) ⊎ (m ≡ n → ⊥) → Some m ≡ Some n
  by_order (inl e) = ap Some e
  by_order (inr k) = absurd (h (λ e. k (same_Some m n e)))

-- an answered update or read comes after as many entries as its reply says
pub answered_stands : (trace : Recording) (call : ℕ) (reply : Response) → HasCleanLog trace → IsOrdered trace call → reply_to trace call ≡ Some reply
    → StandsAfter trace call reply.at × (reply.at ≤ length trace.log)
answered_stands trace call reply clean ordered e = by_kind ordered where
  event : (index : ℕ) × (reply_of trace index ≡ Some reply) × (reply.call ≡ call)
  event = reply_event trace call reply e

  by_kind : IsOrdered trace call → StandsAfter trace call reply.at × (reply.at ≤ length trace.log)
  by_kind (inl u) =
      let placed : slice_get trace.log reply.at ≡ Some reply.call =
      same_option (slice_get trace.log reply.at) reply.call
      (λ apart. clean.all_placed event.0 (reply, event.1, (subst (IsUpdate trace) (sym event.2) u, apart))) in
      let here : slice_get trace.log reply.at ≡ Some call = placed ∙ ap Some event.2 in
      let l : reply.at < length trace.log = slice_get_within trace.log reply.at call here in
      (inl (u, here), omega arith)
  by_kind (inr r) = (inr (r, reply, e, refl), within (cases_lt (length trace.log) reply.at)) where
    within : (length trace.log < reply.at) ⊎ (reply.at ≤ length trace.log) → reply.at ≤ length trace.log
    within (inl l) = absurd (clean.none_past_log event.0 (reply, event.1, (subst (IsRead trace) (sym event.2) r, l)))
    within (inr l) = l

-- what the log has is an update
pub placed_is_update : (trace : Recording) (place call : ℕ) → HasCleanLog trace → slice_get trace.log place ≡ Some call → IsUpdate trace call
placed_is_update trace place call clean e = update_from_not_not trace call (λ h. clean.updates_alone place (call, e, h))

-- a call comes after one number of entries at most
pub stands_once : (trace : Recording) (call m n : ℕ) → HasCleanLog trace → StandsAfter trace call m → StandsAfter trace call n → m ≡ n
stands_once trace call m n clean (inl (u, e)) (inl (v, f)) = by_order (cases_order m n) where
  by_order : (m ≡ n) ⊎ ((m < n) ⊎ (n < m)) → m ≡ n
  by_order (inl h) = h
  by_order (inr (inl l)) = absurd (clean.placed_once n (call, f, (m, l, e)))
  by_order (inr (inr l)) = absurd (clean.placed_once m (call, e, (n, l, f)))
stands_once trace call m n clean (inl (u, e)) (inr (r, reply, f, g)) = absurd (not_both trace call u r)
stands_once trace call m n clean (inr (r, reply, f, g)) (inl (u, e)) = absurd (not_both trace call u r)
stands_once trace call m n clean (inr (r, reply, f, g)) (inr (s, other, h, k)) =
    sym g ∙ ap (λ (a : Response). a.at) (same_Some reply other (sym f ∙ h)) ∙ k
