-- Answer.
use Rattle.std.proofs.Common.{◌≡◌, ℕ, ◌<◌, slice_get, Bool, true, false, cond, nat_eq, ◌==◌, ◌&&◌, not, List, [], ◌∷◌, length, map, filter, Some, refl, ap, sym}
use Rattle.std.proofs.Common.{◌∙◌, subst, arith, eq-eqb}
use Rattle.std.specs.Prelude.{slice_set, ◌%◌}
use Rattle.std.specs.List.{IsDistinct}
use Rattle.std.proofs.lemmas.Bool.{false≢true}
use Rattle.std.proofs.lemmas.Option.{same_Some, none-some}
use Rattle.vs_types.specs.declared.requests.request.Query.TheVariants.{Update}
use Rattle.nr_trace.specs.Calls.{made_by}
use Rattle.nr_trace.proofs.LawsOfLists.{In, in_filter, absent_from, absent_not_in, in_map, in_mapped}
use Rattle.nr_core.specs.State.{State, Thread, Replica, with_thread, with_replica}
use Rattle.nr_core.specs.Steps.{without, is_some_left}
use Rattle.nr_core.specs.declared.states.stage.Answered.{Answered}
use Rattle.nr_core.specs.declared.states.stage.Collected.{Collected}
use Rattle.nr_core.specs.declared.states.stage.Stage.TheVariants.{Taken, Ready}
use Rattle.nr_core.specs.Laws.{IsTaken}
use Rattle.nr_core.specs.inside.Reached.{At, call_at, made_of, shared_in, FitsStage, open_in, IsRight, IsCollected, AreCollected, IsReached}
use Rattle.nr_core.proofs.reached.Places.{each_set}
use Rattle.nr_core.proofs.reached.Growth.{read_within, right_stays}
use Rattle.nr_core.proofs.reached.Changes.{thread_changes, replica_changes, replica_grows, nothing_grows, still_collected, collected_stays, taken_keeps}

distinct_left : (p : Collected → Bool) (batch : List Collected) → IsDistinct nat_eq (map (λ (u : Collected). u.entry.call) batch)
    → IsDistinct nat_eq (map (λ (u : Collected). u.entry.call) (filter p batch))
unfolding IsDistinct
distinct_left p [] h = tt
distinct_left p (u ∷ batch) h = by_test (distinct_left p batch h.1) (p u) where
  absent : In u.entry.call (map (λ (v : Collected). v.entry.call) (filter p batch)) → ⊥
  absent i = nowhere (in_map (λ (v : Collected). v.entry.call) (filter p batch) u.entry.call i) where
    nowhere : (v : Collected) × In v (filter p batch) × (v.entry.call ≡ u.entry.call) → ⊥
    nowhere (v, j, e) = absent_not_in u.entry.call (map (λ (w : Collected). w.entry.call) batch) h.0
        (subst (λ c. In c (map (λ (w : Collected). w.entry.call) batch)) e (in_mapped (λ (w : Collected). w.entry.call) batch v (in_filter p v batch j).0))

  by_test : IsDistinct nat_eq (map (λ (v : Collected). v.entry.call) (filter p batch)) → (b : Bool)
      → IsDistinct nat_eq (map (λ (v : Collected). v.entry.call) (cond b (u ∷ filter p batch) (filter p batch)))
  by_test more true = (absent_from u.entry.call (map (λ (v : Collected). v.entry.call) (filter p batch)) absent, more)
  by_test more false = more

unplaced_before : (placed : Bool) (left : List Collected) (u : Collected) → In u left → (placed && is_some_left left) ≡ false → placed ≡ false
unplaced_before placed [] u i e = absurd i
unplaced_before true (v ∷ left) u i e = e
unplaced_before false (v ∷ left) u i e = refl

other_thread : (n s : ℕ) → not (n == s) ≡ true → n ≡ s → ⊥
other_thread n s e f = false≢true (sym (ap not (eq-eqb n s f)) ∙ e)

pub answered : (state : State) (s r call : ℕ) (replica : Replica) (other : Thread) (u : Collected) (a : Answered) → IsReached state
    → At state.replicas r replica
    → At state.threads s other → In u replica.batch → u.thread ≡ s → u.noted ≡ Some a → other.stage ≡ Taken call
    → IsReached (with_replica (with_thread state s (record other { stage = Ready a })) r (without s replica))
answered state s r call replica other u a reached there here i of_s noted is =
    thread_changes (with_replica state r later) s other next first here same fits (λ c e. absurd (none-some c e)) left where
      later : Replica
      later = without s replica

      next : Thread
      next = record other { stage = Ready a }

      stays : Collected → Bool
      stays v = not (v.thread == s)

      first : IsReached (with_replica state r later)
      first = replica_changes state r replica later reached there (omega arith) (record {
        fetched = (reached.replicas r replica there).fetched;
        known = (reached.replicas r replica there).known;
        space = (reached.replicas r replica there).space;
      })
          (λ v j. still_collected state r replica later v reached there (omega arith)
          (λ h e. h (unplaced_before replica.placed later.batch v j e)) (in_filter stays v replica.batch j).0)
          (distinct_left stays replica.batch (reached.batches r replica there))

      item : IsCollected state.layout (shared_in state) state.threads r replica.placed u
      item = reached.collected r replica u there i

      noted_call : (a.call ≡ u.entry.call)
          × IsRight state.layout (shared_in state) (made_of state.layout u.thread (Update u.entry.op)) a.call a.at a.answer
      noted_call = item.noted a noted

      taken : IsTaken state.threads u.thread u.entry.call → other.stage ≡ Taken u.entry.call
      taken (x, at, t) =
          let one : x ≡ other = same_Some x other (sym at ∙ ap (slice_get state.threads) of_s ∙ here) in
          ap (λ (y : Thread). y.stage) (sym one) ∙ t

      same : Some a.call ≡ open_in other.stage
      same = ap Some noted_call.0 ∙ sym (ap open_in (taken item.taken))

      fits : FitsStage state.layout (shared_in (with_replica state r later)) s (Ready a)
      fits = (
        Update u.entry.op,
        ap (call_at state.events) noted_call.0 ∙ item.asks ∙ ap (λ n. Some (made_of state.layout n (Update u.entry.op))) of_s,
        subst (λ n. IsRight state.layout (shared_in (with_replica state r later))
            (made_of state.layout n (Update u.entry.op)) a.call a.at a.answer) of_s
            (right_stays (replica_grows state r replica later reached there (omega arith))
            (subst (λ (n : ℕ). n < length state.events) (sym noted_call.0) (read_within made_by state.events u.entry.call _ item.asks)) noted_call.1),
      )

      not_of_s : (q : ℕ) (x : Replica) (v : Collected) → At (slice_set state.replicas r later) q x → In v x.batch → v.thread ≡ s → ⊥
      not_of_s q x v at j e = each_set (λ n (y : Replica). In v y.batch → ⊥) state.replicas r later
          (λ k. other_thread v.thread s (in_filter stays v replica.batch k).1 e)
          (λ n y out f k. out (sym (reached.collected n y v f k).home ∙ ap (λ m. m % state.layout.replicas) (e ∙ sym of_s) ∙ item.home)) q x at j

      left : AreCollected state.layout (shared_in (with_replica state r later)) (slice_set state.threads s next)
      left q x v at j = collected_stays (nothing_grows (with_replica state r later) first) (first.collected q x v at j)
          (taken_keeps state.threads s v.thread v.entry.call other next here (λ e f. absurd (not_of_s q x v at j e))) (λ h. h)
