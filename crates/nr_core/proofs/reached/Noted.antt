-- An answer is noted for a thread only while its update is taken.
use Rattle.std.proofs.Common.{◌≡◌, ℕ, slice_get, ◌==◌, Option, Some, None, option_and_then, refl, ap, sym, ◌∙◌, subst, eqb-true}
use Rattle.std.specs.Prelude.{find, option_map}
use Rattle.std.proofs.lemmas.Option.{same_Some}
use Rattle.nr_core.specs.Laws.{answer_noted, IsTaken}
use Rattle.nr_core.specs.Run.{IsReachable}
use Rattle.nr_core.specs.State.{State, Thread, Replica}
use Rattle.nr_core.specs.Steps.{answer, noted_for, with_answer, with_ready}
use Rattle.nr_core.specs.declared.states.stage.Answered.{Answered}
use Rattle.nr_core.specs.declared.states.stage.Collected.{Collected}
use Rattle.nr_core.specs.inside.Reached.{At, IsReached}
use Rattle.nr_core.proofs.reached.Places.{found_in}
use Rattle.nr_core.proofs.reached.Growth.{then_parts}
use Rattle.nr_core.proofs.reached.Runs.{reached_by_steps}

noted_is_taken : (state : State) (r s : ℕ) (replica : Replica) (a : Answered) → IsReached state → At state.replicas r replica → noted_for s replica ≡ Some a
    → IsTaken state.threads s a.call
noted_is_taken state r s replica a reached there noted =
    of_found (then_parts (λ (u : Collected). u.noted) (find (λ (u : Collected). u.thread == s) replica.batch) a noted) where
      of_found : (u : Collected) × (find (λ (v : Collected). v.thread == s) replica.batch ≡ Some u) × (u.noted ≡ Some a) → IsTaken state.threads s a.call
      of_found (u, found, is) =
          let (i, test) = found_in (λ (v : Collected). v.thread == s) replica.batch u found in
          let item = reached.collected r replica u there i in
          subst (λ n. IsTaken state.threads n a.call) (eqb-true u.thread s test)
          (subst (IsTaken state.threads u.thread) (sym (item.noted a is).0) item.taken)

pub taken_by_steps : (state : State) (r s : ℕ) (replica : Replica) (a : Answered) → IsReachable state → At state.replicas r replica
    → noted_for s replica ≡ Some a → IsTaken state.threads s a.call
taken_by_steps state r s replica a reachable there noted = noted_is_taken state r s replica a (reached_by_steps state reachable) there noted

-- two continuations that agree where there is something
same_then : {A B : Type 0} (o : Option A) (f g : A → Option B) → ((x : A) → o ≡ Some x → f x ≡ g x) → option_and_then f o ≡ option_and_then g o
same_then None f g same = refl
same_then (Some x) f g same = same x refl

same_map : {A B : Type 0} (o : Option A) (f : A → Option B) (g : A → B) → ((x : A) → o ≡ Some x → f x ≡ Some (g x)) → option_and_then f o ≡ option_map g o
same_map None f g same = refl
same_map (Some x) f g same = same x refl

pub answers_alike : (state : State) (t s : ℕ) → IsReachable state → answer state t s ≡ answer_noted state t s
answers_alike state t s reachable =
    same_then (slice_get state.threads t) _ _ (λ thread at. same_then thread.holds _ _ (λ r holds. same_then (slice_get state.replicas r) _ _
    (λ replica there. same_then (slice_get state.threads s) _ _ (λ other here. same_map (noted_for s replica) _ _
    (λ a noted. of_taken r replica other a here (taken_by_steps state r s replica a reachable there noted)))))) where
      of_taken : (r : ℕ) (replica : Replica) (other : Thread) (a : Answered) → At state.threads s other → IsTaken state.threads s a.call
          → with_answer state r replica s other a other.stage ≡ Some (with_ready state r replica s other a)
      of_taken r replica other a here (thread, at, is) =
          let one : thread ≡ other = same_Some thread other (sym at ∙ here) in
          ap (with_answer state r replica s other a) (ap (λ (x : Thread). x.stage) (sym one) ∙ is)
