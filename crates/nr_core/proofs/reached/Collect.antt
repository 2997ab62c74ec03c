-- Collect.
use Rattle.std.proofs.Common.{◌≡◌, ℕ, ◌⊎◌, inl, inr, nat_eq, [], ◌∷◌, ◌++◌, map, Some, None, refl, ap, sym, ◌∙◌, subst, arith}
use Rattle.std.specs.Prelude.{slice_set}
use Rattle.std.specs.List.{IsDistinct}
use Rattle.std.proofs.lemmas.List.{map-append}
use Rattle.std.proofs.lemmas.Option.{none-some}
use Rattle.vs_types.specs.declared.requests.op.Action.{Action}
use Rattle.nr_trace.proofs.LawsOfLists.{In, in_either, distinct_append, option_distinct, in_map}
use Rattle.nr_core.specs.State.{State, Thread, Replica, home, with_thread, with_replica}
use Rattle.nr_core.specs.Steps.{with_update}
use Rattle.nr_core.specs.declared.states.stage.Collected.{Collected}
use Rattle.nr_core.specs.declared.states.stage.Stage.TheVariants.{Posted, Taken}
use Rattle.nr_core.specs.inside.Reached.{At, shared_in, FitsStage, IsCollected, open_in, waiting_in, IsReached}
use Rattle.nr_core.proofs.reached.Places.{at_set}
use Rattle.nr_core.proofs.reached.Changes.{thread_changes, replica_changes, still_collected, collected_keep}
use Rattle.nr_core.proofs.reached.Waiting.{waiting_not_collected}

pub collected : (state : State) (s r call : ℕ) (replica : Replica) (other : Thread) (action : Action) → IsReached state → At state.replicas r replica
    → At state.threads s other → other.stage ≡ Posted call action → home state s ≡ r
    → IsReached (with_replica (with_thread state s (record other { stage = Taken call })) r
    (with_update replica (record { thread = s; entry = record { call = call; op = action }; noted = None })))
collected state s r call replica other action reached there here is at_home =
    replica_changes (with_thread state s next) r replica later first there (omega arith) (record {
      fetched = (reached.replicas r replica there).fetched;
      known = (reached.replicas r replica there).known;
      space = (reached.replicas r replica there).space;
    })
    (λ u i. each u (in_either u replica.batch (update ∷ []) i))
    (subst (IsDistinct nat_eq) (sym (map-append (λ (u : Collected). u.entry.call) replica.batch (update ∷ [])))
    (distinct_append (map (λ (u : Collected). u.entry.call) replica.batch) (call ∷ []) (reached.batches r replica there) (option_distinct (Some call))
    (λ c i j. apart c (in_map (λ (u : Collected). u.entry.call) replica.batch c i) j))) where
      update : Collected
      update = record { thread = s; entry = record { call = call; op = action }; noted = None }

      next : Thread
      next = record other { stage = Taken call }

      later : Replica
      later = record replica { batch = replica.batch ++ update ∷ [] }

      first : IsReached (with_thread state s next)
      first = thread_changes state s other next reached here (sym (ap open_in is)) tt (λ c e. absurd (none-some c e))
          (collected_keep state s other next reached here (λ c e. cc))

      new : IsCollected state.layout (shared_in (with_replica state r later)) (slice_set state.threads s next) r replica.placed
          update
      new = record {
        home = at_home;
        taken = (next, at_set state.threads s other next here, refl);
        asks = subst (FitsStage state.layout (shared_in state) s) is (reached.threads s other here);
        noted = λ a e. absurd (none-some a e);
        fresh = λ e. reached.waiting s other call here (ap waiting_in is);
      }

      each : (u : Collected) → In u replica.batch ⊎ In u (update ∷ [])
          → IsCollected state.layout (shared_in (with_replica state r later)) (slice_set state.threads s next) r replica.placed u
      each u (inl i) = still_collected (with_thread state s next) r replica later u first there (omega arith) (λ h. h) i
      each u (inr (inl e)) = subst (λ (v : Collected).
          IsCollected state.layout (shared_in (with_replica state r later)) (slice_set state.threads s next) r replica.placed v) e new
      each u (inr (inr i)) = absurd i

      apart : (c : ℕ) → (u : Collected) × In u replica.batch × (u.entry.call ≡ c) → In c (call ∷ []) → ⊥
      apart c (u, i, e) (inl f) = waiting_not_collected state r s call replica u other reached there i here (ap waiting_in is) (e ∙ sym f)
      apart c h (inr i) = i
