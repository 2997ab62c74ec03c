-- The parts of a state: what is read of one, and that a change of one keeps the others.
use Rattle.std.proofs.Common.{◌≡◌, ℕ, ◌+◌, ◌<◌, ◌≤◌, List, [], ◌∷◌, ◌++◌, length, map, Some, None, slice_set, slice_index_or, refl, sym, ap, subst, ◌∙◌, arith}
use Rattle.std.proofs.Common.{nat_lt, true, false, inl, inr}
use Rattle.std.specs.Prelude.{All, slice_get, option_map, MatchBool}
use Rattle.std.proofs.lemmas.Bool.Decides.{nat_tests}
use Rattle.std.proofs.lemmas.List.{length-set, map-set, length-map, length-append, set-get_or}
use Rattle.std.proofs.lemmas.List.Elements.{All-set, All-get_or, All-append}
use Rattle.std.proofs.lemmas.List.Sums.{sum_by-set}
use Rattle.std.proofs.lemmas.Option.{slice_get-map, slice_get_read, slice_get_past, slice_get_within, slice_get_cases, get_or_from_slice_get}
use Rattle.vs_types.specs.Operation.{IsAction}
use Rattle.vs_types.specs.declared.limits.TheConstants.{LOG_PLACES}
use Rattle.vs_types.specs.declared.log_entry.LogEntry.{LogEntry}
use Rattle.nr_trace.specs.Recording.{IsEvent}
use Rattle.nr_trace.specs.declared.recordings.event.Event.{Event}
use Rattle.nr_trace.specs.declared.formats.version.Version.TheVariants.{V2}
use Rattle.nr_core.specs.State.{State, Thread, Replica, with_thread, with_replica}
use Rattle.nr_core.specs.declared.states.parts.ThreadState.{ThreadState}
use Rattle.nr_core.specs.declared.states.state.Core.TheInside.{Inside}
use Rattle.nr_core.specs.declared.states.parts.ReplicaState.{ReplicaState}
use Rattle.nr_core.specs.inside.Fields.{parts_in}
use Rattle.nr_core.specs.inside.Parts.{thread_in, replica_in, state_in, events_left, IsThread, IsReplica, AreParts, Parts}

-- the element at an index is seen there
pub seen_at : {A B : Type 0} (f : A → B) (xs : List A) (i : ℕ) (x : A) → i < length xs → x ≡ slice_index_or xs i x → slice_get (map f xs) i ≡ Some (f x)
seen_at f xs i x within is = slice_get-map f xs i ∙ ap (option_map f) (slice_get_read xs (length xs) i x refl within is)

pub seen_past : {A B : Type 0} (f : A → B) (xs : List A) (i : ℕ) → length xs ≤ i → slice_get (map f xs) i ≡ None
seen_past f xs i past = slice_get-map f xs i ∙ ap (option_map f) (slice_get_past xs i past)

-- what is seen at an index is the element there
pub seen_within : {A B : Type 0} (f : A → B) (xs : List A) (i : ℕ) (y : B) → slice_get (map f xs) i ≡ Some y → i < length xs
seen_within f xs i y is = subst (λ n. i < n) (length-map xs f) (slice_get_within (map f xs) i y is)

pub seen_is : {A B : Type 0} (f : A → B) (xs : List A) (i : ℕ) (x : A) (y : B) → slice_get (map f xs) i ≡ Some y → x ≡ slice_index_or xs i x → y ≡ f x
seen_is f xs i x y is at =
    let here : Some y ≡ Some (f x) = sym is ∙ seen_at f xs i x (seen_within f xs i y is) at in cc

-- of all elements, this one
pub one_of : {A : Type 0} (P : A → Type 0) (xs : List A) (i : ℕ) (x : A) → i < length xs → x ≡ slice_index_or xs i x → All P xs → P x
one_of P xs i x within is all = subst P (sym is) (All-get_or P xs i x within all)

-- another thread in the place of one, and other events, with no more to record in all
pub with_other_thread : {parts : Parts} {later : List Event} (t : ℕ) (x y : ThreadState)
    → AreParts parts → t < length parts.threads → x ≡ slice_index_or parts.threads t x → IsThread parts.layout.depth y
    → All (IsEvent V2 parts.layout) later → length later + events_left y ≤ length parts.events + events_left x
    → AreParts (record parts { events = later; threads = slice_set parts.threads t y })
with_other_thread {parts} t x y are within is good recorded fewer = record {
  each_thread = All-set (IsThread parts.layout.depth) parts.threads t y good are.each_thread;
  each_replica = are.each_replica;
  one_replica_each = are.one_replica_each;
  one_thread_each = length-set parts.threads t y ∙ are.one_thread_each;
  entries = are.entries;
  few_entries = are.few_entries;
  recorded = recorded;
  few_events =
      let sums = sum_by-set events_left parts.threads t y x within in
      let same : events_left (slice_index_or parts.threads t x) ≡ events_left x = ap events_left (sym is) in
      let few = are.few_events in
      omega (arith, sums, same, few, fewer);
}

-- another replica in the place of one
pub with_other_replica : {parts : Parts} (r : ℕ) (y : ReplicaState) → AreParts parts → IsReplica parts.layout y
    → AreParts (record parts { replicas = slice_set parts.replicas r y })
with_other_replica {parts} r y are good = record {
  each_thread = are.each_thread;
  each_replica = All-set (IsReplica parts.layout) parts.replicas r y good are.each_replica;
  one_replica_each = length-set parts.replicas r y ∙ are.one_replica_each;
  one_thread_each = are.one_thread_each;
  entries = are.entries;
  few_entries = are.few_entries;
  recorded = are.recorded;
  few_events = are.few_events;
}

-- what is stored where the state has a thread or replica: it is there, is seen as that, and what holds of each holds of it
pub record IsSeen {A B : Type 0} (f : A → B) (P : A → Type 0) (xs : List A) (i : ℕ) (x : A) (y : B) : Type 0 where
  pub within : i < length xs
  pub is : y ≡ f x
  pub good : P x

is_seen : {A B : Type 0} (f : A → B) (P : A → Type 0) (xs : List A) (i : ℕ) (x : A) (y : B) → All P xs → slice_get (map f xs) i ≡ Some y
    → x ≡ slice_index_or xs i x → IsSeen f P xs i x y
is_seen f P xs i x y all there at =
    let within = seen_within f xs i y there in
    record { within = within; is = seen_is f xs i x y there at; good = one_of P xs i x within at all }

pub thread_seen : {state : State} (core : Inside) (t : ℕ) (x : ThreadState) (y : Thread) → state_in (parts_in core) ≡ state → AreParts (parts_in core)
    → slice_get state.threads t ≡ Some y → x ≡ slice_index_or core.threads.items t x
    → IsSeen thread_in (IsThread core.config.depth) core.threads.items t x y
thread_seen core t x y is parts there at =
    is_seen thread_in (IsThread core.config.depth) core.threads.items t x y parts.each_thread (ap (λ s. slice_get s.threads t) is ∙ there) at

pub replica_seen : {state : State} (core : Inside) (r : ℕ) (x : ReplicaState) (y : Replica) → state_in (parts_in core) ≡ state → AreParts (parts_in core)
    → slice_get state.replicas r ≡ Some y → x ≡ slice_index_or core.replicas.items r x
    → IsSeen replica_in (IsReplica core.config) core.replicas.items r x y
replica_seen core r x y is parts there at =
    is_seen replica_in (IsReplica core.config) core.replicas.items r x y parts.each_replica (ap (λ s. slice_get s.replicas r) is ∙ there) at

-- the state, where one thread or replica is another
pub set_thread : {state : State} {t k : ℕ} (core : Inside) (y : ThreadState) (after : Thread) → state_in (parts_in core) ≡ state → k ≡ t
    → thread_in y ≡ after → state_in (record (parts_in core) { threads = slice_set core.threads.items k y }) ≡ with_thread state t after
set_thread {k = k} core y after is same as_after = rw (← is, map-set thread_in core.threads.items k y, same, as_after) refl

pub set_replica : {state : State} {r k : ℕ} (core : Inside) (y : ReplicaState) (after : Replica) → state_in (parts_in core) ≡ state → k ≡ r
    → replica_in y ≡ after → state_in (record (parts_in core) { replicas = slice_set core.replicas.items k y }) ≡ with_replica state r after
set_replica {k = k} core y after is same as_after = rw (← is, map-set replica_in core.replicas.items k y, same, as_after) refl

-- an index is that of an element, or past the end
pub there_or_not : {A B : Type 0} (f : A → B) (xs : List A) (i n : ℕ) → n ≡ length xs
    → MatchBool (nat_lt i n) ((y : B) × (slice_get (map f xs) i ≡ Some y)) (slice_get (map f xs) i ≡ None)
there_or_not {A} {B} f xs i n is =
    elim (nat_lt i n) as (λ b. nat_lt i n ≡ b → MatchBool b ((y : B) × (slice_get (map f xs) i ≡ Some y)) (slice_get (map f xs) i ≡ None)) [
      | true ↦ λ e.
          let below : i < length xs = grind (arith, nat_tests, e, is) in
          elim (slice_get_cases xs i).1 [
            | inl here ↦ (f here.0, slice_get-map f xs i ∙ ap (option_map f) here.2)
            | inr past ↦ absurd (omega (arith, past.0, below))
          ]
      | false ↦ λ e.
          let past : length xs ≤ i = grind (arith, nat_tests, e, is) in
          seen_past f xs i past
    ] refl

-- a replica in its own place changes nothing
pub same_replica : (state : State) (r : ℕ) (before : Replica) → slice_get state.replicas r ≡ Some before → with_replica state r before ≡ state
same_replica state r before is =
    let same : slice_set state.replicas r before ≡ state.replicas = same_element state.replicas r before is in
    ap (λ replicas. record state { replicas = replicas }) same
  where
    same_element : {A : Type 0} (xs : List A) (i : ℕ) (x : A) → slice_get xs i ≡ Some x → slice_set xs i x ≡ xs
    same_element xs i x is = ap (slice_set xs i) (sym (get_or_from_slice_get xs i x x is)) ∙ set-get_or xs i x

-- the state, where one thread is another, and an event more is recorded
pub set_recorded : {state : State} {t k : ℕ} {events : List Event} (core : Inside) (y : ThreadState) (after : Thread) (event : Event)
    → state_in (parts_in core) ≡ state → k ≡ t → thread_in y ≡ after → events ≡ core.events.items ++ event ∷ []
    → state_in (record (parts_in core) { events = events; threads = slice_set core.threads.items k y })
    ≡ record (with_thread state t after) { events = state.events ++ event ∷ [] }
set_recorded {k = k} core y after event is same as_after pushed = rw (← is, map-set thread_in core.threads.items k y, same, as_after, pushed) refl

-- the log with a batch's entries at its end
pub with_entries : {parts : Parts} (more : List LogEntry) → AreParts parts → All (λ entry. IsAction parts.layout.depth entry.op) more
    → length parts.log + length more ≤ LOG_PLACES → AreParts (record parts { log = parts.log ++ more })
with_entries {parts} more are fit few = record {
  each_thread = are.each_thread;
  each_replica = are.each_replica;
  one_replica_each = are.one_replica_each;
  one_thread_each = are.one_thread_each;
  entries = All-append (λ entry. IsAction parts.layout.depth entry.op) parts.log more are.entries fit;
  few_entries = rw (length-append parts.log more) few;
  recorded = are.recorded;
  few_events = are.few_events;
}
