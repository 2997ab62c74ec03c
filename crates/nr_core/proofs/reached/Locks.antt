-- A thread holds a replica's lock exactly where the replica says that this thread does.
use Rattle.std.proofs.Common.{◌≡◌, ℕ, suc, ◌⊎◌, inl, inr, List, ◌∷◌, map, replicate, slice_get, true, Option, Some, None, option_and_then, refl, ap, sym, ◌∙◌}
use Rattle.std.proofs.Common.{subst}
use Rattle.std.specs.Prelude.{slice_set, is_none}
use Rattle.std.proofs.lemmas.Bool.{cases_eq, false≢true}
use Rattle.std.proofs.lemmas.Option.{same_Some, none-some}
use Rattle.vs_types.specs.Config.{Layout}
use Rattle.vs_types.specs.declared.requests.request.Query.{Query}
use Rattle.nr_trace.proofs.LawsOfLists.{slice_get-set_other}
use Rattle.nr_core.specs.Laws.{HasHolder, HoldsLockOf}
use Rattle.nr_core.specs.Run.{IsReachable}
use Rattle.nr_core.specs.State.{State, Thread, Replica, new_thread, new_replica, start, with_thread, with_replica}
use Rattle.nr_core.specs.inside.Reached.{At}
use Rattle.nr_core.proofs.reached.Each.{AfterEach, after_all}
use Rattle.nr_core.proofs.reached.Growth.{then_parts, then_from}
use Rattle.nr_core.proofs.reached.Places.{at_set}

-- the replica whose lock a thread holds; the thread that holds a replica's lock
abbrev lock_at : List Thread → ℕ → Option ℕ
lock_at threads t = option_and_then (λ (thread : Thread). thread.holds) (slice_get threads t)

abbrev holder_at : List Replica → ℕ → Option ℕ
holder_at replicas r = option_and_then (λ (replica : Replica). replica.holder) (slice_get replicas r)

-- whom the first names, the second has naming back
abbrev NamesBack : (ℕ → Option ℕ) → (ℕ → Option ℕ) → Type 0
NamesBack f g = (i j : ℕ) → f i ≡ Some j → g j ≡ Some i

-- of the threads and replicas of a state
record Agree (threads : List Thread) (replicas : List Replica) : Type 0 where
  held : NamesBack (lock_at threads) (holder_at replicas)
  holds : NamesBack (holder_at replicas) (lock_at threads)

abbrev AgreesOnLocks : State → Type 0
AgreesOnLocks state = Agree state.threads state.replicas

-- ---- a step that changes no lock

-- an element that has the same lock as the one in whose place it is
same_lock : {X : Type 0} (f : X → Option ℕ) (xs : List X) (i : ℕ) (x y : X) → At xs i x → f y ≡ f x → (j : ℕ)
    → option_and_then f (slice_get (slice_set xs i y) j) ≡ option_and_then f (slice_get xs j)
same_lock f xs i x y at same j = by_index (cases_eq j i) where
  by_index : (j ≡ i) ⊎ (j ≡ i → ⊥) → option_and_then f (slice_get (slice_set xs i y) j) ≡ option_and_then f (slice_get xs j)
  by_index (inl e) = subst (λ n. option_and_then f (slice_get (slice_set xs i y) n) ≡ option_and_then f (slice_get xs n)) (sym e)
      (ap (option_and_then f) (at_set xs i x y at) ∙ same ∙ sym (ap (option_and_then f) at))
  by_index (inr out) = ap (option_and_then f) (slice_get-set_other xs i j y out)

thread_keeps : (threads : List Thread) (replicas : List Replica) (t : ℕ) (thread next : Thread) → At threads t thread → next.holds ≡ thread.holds
    → Agree threads replicas → Agree (slice_set threads t next) replicas
thread_keeps threads replicas t thread next at same agree = record {
  held = λ u r e. agree.held u r (sym (lock u) ∙ e);
  holds = λ r u e. lock u ∙ agree.holds r u e;
} where
  lock : (u : ℕ) → lock_at (slice_set threads t next) u ≡ lock_at threads u
  lock u = same_lock (λ (x : Thread). x.holds) threads t thread next at same u

replica_keeps : (threads : List Thread) (replicas : List Replica) (r : ℕ) (replica next : Replica) → At replicas r replica → next.holder ≡ replica.holder
    → Agree threads replicas → Agree threads (slice_set replicas r next)
replica_keeps threads replicas r replica next at same agree = record {
  held = λ t q e. holder q ∙ agree.held t q e;
  holds = λ q t e. agree.holds q t (sym (holder q) ∙ e);
} where
  holder : (q : ℕ) → holder_at (slice_set replicas r next) q ≡ holder_at replicas q
  holder q = same_lock (λ (x : Replica). x.holder) replicas r replica next at same q

-- ---- locks that are taken and released

-- f at i and g at j name each other from now on, of which g at j named none before
taken : (f g f' g' : ℕ → Option ℕ) (i j : ℕ) → NamesBack f g → f' i ≡ Some j → g' j ≡ Some i → ((k : ℕ) → (k ≡ i → ⊥) → f' k ≡ f k)
    → ((l : ℕ) → (l ≡ j → ⊥) → g' l ≡ g l) → g j ≡ None → NamesBack f' g'
taken f g f' g' i j back f_is g_is f_else g_else none k l e = by_index (cases_eq k i) (cases_eq l j) where
  by_index : (k ≡ i) ⊎ (k ≡ i → ⊥) → (l ≡ j) ⊎ (l ≡ j → ⊥) → g' l ≡ Some k
  by_index (inl p) (inl q) = ap g' q ∙ g_is ∙ ap Some (sym p)
  by_index (inl p) (inr out) = absurd (out (sym (same_Some j l (sym f_is ∙ ap f' (sym p) ∙ e))))
  by_index (inr out) (inl q) = absurd (none-some k (sym none ∙ ap g (sym q) ∙ back k l (sym (f_else k out) ∙ e)))
  by_index (inr out) (inr other) = g_else l other ∙ back k l (sym (f_else k out) ∙ e)

-- f at i and g at j named each other, and name none from now on
freed : (f g f' g' : ℕ → Option ℕ) (i j : ℕ) → NamesBack f g → f' i ≡ None → ((k : ℕ) → (k ≡ i → ⊥) → f' k ≡ f k)
    → ((l : ℕ) → (l ≡ j → ⊥) → g' l ≡ g l) → g j ≡ Some i → NamesBack f' g'
freed f g f' g' i j back f_is f_else g_else named k l e = by_index (cases_eq k i) (cases_eq l j) where
  by_index : (k ≡ i) ⊎ (k ≡ i → ⊥) → (l ≡ j) ⊎ (l ≡ j → ⊥) → g' l ≡ Some k
  by_index (inl p) side = absurd (none-some l (sym f_is ∙ ap f' (sym p) ∙ e))
  by_index (inr out) (inl q) = absurd (out (sym (same_Some i k (sym named ∙ ap g (sym q) ∙ back k l (sym (f_else k out) ∙ e)))))
  by_index (inr out) (inr other) = g_else l other ∙ back k l (sym (f_else k out) ∙ e)

none_is : (o : Option ℕ) → is_none o ≡ true → o ≡ None
none_is None e = refl
none_is (Some n) e = absurd (false≢true e)

-- the lock of a thread and of a replica, where these and no others are changed
module _ (state : State) (t r : ℕ) (thread : Thread) (replica : Replica) (at : At state.threads t thread) (there : At state.replicas r replica)
    (holds holder : Option ℕ) where
  abbrev changed : State
  changed = with_replica (with_thread state t (record thread { holds = holds })) r (record replica { holder = holder })

  lock_is : lock_at changed.threads t ≡ holds
  lock_is = ap (option_and_then (λ (x : Thread). x.holds)) (at_set state.threads t thread (record thread { holds = holds }) at)

  holder_is : holder_at changed.replicas r ≡ holder
  holder_is = ap (option_and_then (λ (x : Replica). x.holder)) (at_set state.replicas r replica (record replica { holder = holder }) there)

  lock_else : (u : ℕ) → (u ≡ t → ⊥) → lock_at changed.threads u ≡ lock_at state.threads u
  lock_else u out = ap (option_and_then (λ (x : Thread). x.holds)) (slice_get-set_other state.threads t u (record thread { holds = holds }) out)

  holder_else : (q : ℕ) → (q ≡ r → ⊥) → holder_at changed.replicas q ≡ holder_at state.replicas q
  holder_else q out = ap (option_and_then (λ (x : Replica). x.holder)) (slice_get-set_other state.replicas r q (record replica { holder = holder }) out)

  agree_taken : AgreesOnLocks state → lock_at state.threads t ≡ None → holder_at state.replicas r ≡ None → holds ≡ Some r → holder ≡ Some t
      → AgreesOnLocks changed
  agree_taken agrees no_lock no_holder h k = record {
    held = taken (lock_at state.threads) (holder_at state.replicas) (lock_at changed.threads) (holder_at changed.replicas) t r agrees.held (lock_is ∙ h)
        (holder_is ∙ k) lock_else holder_else no_holder;
    holds = taken (holder_at state.replicas) (lock_at state.threads) (holder_at changed.replicas) (lock_at changed.threads) r t agrees.holds (holder_is ∙ k)
        (lock_is ∙ h) holder_else lock_else no_lock;
  }

  agree_freed : AgreesOnLocks state → lock_at state.threads t ≡ Some r → holds ≡ None → holder ≡ None → AgreesOnLocks changed
  agree_freed agrees lock h k = record {
    held = freed (lock_at state.threads) (holder_at state.replicas) (lock_at changed.threads) (holder_at changed.replicas) t r agrees.held (lock_is ∙ h)
        lock_else holder_else (agrees.held t r lock);
    holds = freed (holder_at state.replicas) (lock_at state.threads) (holder_at changed.replicas) (lock_at changed.threads) r t agrees.holds (holder_is ∙ k)
        holder_else lock_else lock;
  }

-- ---- all steps

each_agrees : (state : State) (t : ℕ) → AgreesOnLocks state → AfterEach AgreesOnLocks state t
each_agrees state t agree = record {
  call = λ thread request left at is. thread_keeps state.threads state.replicas t thread _ at refl agree;
  post = λ thread call action at is. thread_keeps state.threads state.replicas t thread _ at refl agree;
  take = λ r thread replica at there free unheld. agree_taken state t r thread replica at there (Some r) (Some t) agree
      (ap (option_and_then (λ (x : Thread). x.holds)) at ∙ none_is thread.holds free)
      (ap (option_and_then (λ (x : Replica). x.holder)) there ∙ none_is replica.holder unheld) refl refl;
  collect = λ s r call replica other action there here is at_home. replica_keeps _ state.replicas r replica _ there refl
      (thread_keeps state.threads state.replicas s other _ here refl agree);
  append = λ r replica there unplaced. replica_keeps state.threads state.replicas r replica _ there refl agree;
  advance = λ r replica there. replica_keeps state.threads state.replicas r replica _ there refl agree;
  apply = λ r replica entry there stands less. replica_keeps state.threads state.replicas r replica _ there refl agree;
  answer = λ s r call replica other u a there here i of_s noted is. replica_keeps _ state.replicas r replica _ there refl
      (thread_keeps state.threads state.replicas s other _ here refl agree);
  release = λ r thread replica at holds there. agree_freed state t r thread replica at there None None agree
      (ap (option_and_then (λ (x : Thread). x.holds)) at ∙ holds) refl refl;
  look = λ thread call request at is reads. thread_keeps state.threads state.replicas t thread _ at refl agree;
  read = λ thread replica call request completed at there is less. thread_keeps state.threads state.replicas t thread _ at refl agree;
  reply = λ thread a at is. thread_keeps state.threads state.replicas t thread _ at refl agree;
}

no_lock : (scripts : List (List Query)) (t : ℕ) → lock_at (map new_thread scripts) t ≡ None
no_lock (script ∷ scripts) (suc t) = no_lock scripts t
no_lock _ _ = refl

no_holder : (n r : ℕ) → holder_at (replicate n new_replica) r ≡ None
no_holder (suc n) (suc r) = no_holder n r
no_holder _ _ = refl

start_agrees : (layout : Layout) (scripts : List (List Query)) → AgreesOnLocks (start layout scripts)
start_agrees layout scripts = record {
  held = λ t r e. absurd (none-some r (sym (no_lock scripts t) ∙ e));
  holds = λ r t e. absurd (none-some t (sym (no_holder layout.replicas r) ∙ e));
}

agrees_by_steps : (state : State) → IsReachable state → AgreesOnLocks state
agrees_by_steps state (layout, scripts, steps, is) =
    subst AgreesOnLocks (sym is) (after_all AgreesOnLocks each_agrees (start layout scripts) steps (start_agrees layout scripts))

-- ---- the law

lock_of : (state : State) (t r : ℕ) → HoldsLockOf state t r → lock_at state.threads t ≡ Some r
lock_of state t r (thread, at, holds) = then_from (λ (x : Thread). x.holds) (slice_get state.threads t) thread r at holds

pub has_holder : (state : State) (t r : ℕ) → IsReachable state → HoldsLockOf state t r → HasHolder state r t
has_holder state t r reachable holds =
    then_parts (λ (x : Replica). x.holder) (slice_get state.replicas r) t ((agrees_by_steps state reachable).held t r (lock_of state t r holds))

pub holds_lock : (state : State) (t r : ℕ) → IsReachable state → HasHolder state r t → HoldsLockOf state t r
holds_lock state t r reachable (replica, there, holder) =
    then_parts (λ (x : Thread). x.holds) (slice_get state.threads t) r ((agrees_by_steps state reachable).holds r t
    (then_from (λ (x : Replica). x.holder) (slice_get state.replicas r) replica t there holder))

pub one_holder : (state : State) (t u r : ℕ) → IsReachable state → HoldsLockOf state t r → HoldsLockOf state u r → t ≡ u
one_holder state t u r reachable first second =
    let agrees = agrees_by_steps state reachable in
    same_Some t u (sym (agrees.held t r (lock_of state t r first)) ∙ agrees.held u r (lock_of state u r second))
