-- Append.
use Rattle.std.proofs.Common.{◌≡◌, ℕ, true, false, nat_eq, List, [], ◌∷◌, ◌++◌, map, Some, refl, ap, sym, ◌∙◌, subst, arith}
use Rattle.std.specs.Prelude.{◌%◌}
use Rattle.std.specs.List.{IsDistinct}
use Rattle.std.proofs.lemmas.Bool.{false≢true}
use Rattle.vs_types.specs.declared.log_entry.LogEntry.{LogEntry}
use Rattle.vs_types.specs.declared.requests.request.Query.TheVariants.{Update}
use Rattle.nr_trace.specs.Calls.{Invocation}
use Rattle.nr_trace.proofs.LawsOfLists.{In, in_map}
use Rattle.nr_core.specs.State.{State, Thread, Replica, with_replica}
use Rattle.nr_core.specs.declared.states.stage.Collected.{Collected}
use Rattle.nr_core.specs.inside.Reached.{request_made, At, call_at, made_of, calls_of, waiting_in, IsFresh, IsReached}
use Rattle.nr_core.proofs.reached.Places.{each_set}
use Rattle.nr_core.proofs.reached.Changes.{replica_changes, still_collected, log_grows}
use Rattle.nr_core.proofs.reached.Waiting.{waiting_not_collected, same_thread}

calls_of_entries : (batch : List Collected) → calls_of (map (λ (u : Collected). u.entry) batch) ≡ map (λ (u : Collected). u.entry.call) batch
calls_of_entries [] = refl
calls_of_entries (u ∷ batch) = ap (λ calls. u.entry.call ∷ calls) (calls_of_entries batch)

in_batch : (batch : List Collected) (call : ℕ) → In call (calls_of (map (λ (u : Collected). u.entry) batch))
    → (u : Collected) × In u batch × (u.entry.call ≡ call)
in_batch batch call i = in_map (λ (u : Collected). u.entry.call) batch call (subst (In call) (calls_of_entries batch) i)

pub appended : (state : State) (r : ℕ) (replica : Replica) → IsReached state → At state.replicas r replica → replica.placed ≡ false
    → IsReached (with_replica (record state { log = state.log ++ map (λ update. update.entry) replica.batch }) r (record replica { placed = true }))
appended state r replica reached there unplaced = log_grows (with_replica state r later) (map (λ (u : Collected). u.entry) replica.batch) first (record {
  asked = λ entry i. asked entry (in_map (λ (u : Collected). u.entry) replica.batch entry i);
  once = subst (IsDistinct nat_eq) (sym (calls_of_entries replica.batch)) (reached.batches r replica there);
  fresh = λ call i. fresh call (in_batch replica.batch call i);
  not_waiting = λ t thread call at is i. not_waiting t thread call at is (in_batch replica.batch call i);
  in_no_other = λ q x v e i unplaced j. each_set (λ n (y : Replica). In v y.batch → y.placed ≡ false → ⊥) state.replicas r later
      (λ k f. false≢true (sym f)) (λ n y out at k f. other n y v out at k (in_batch replica.batch v.entry.call j)) q x e i unplaced;
}) where
  later : Replica
  later = record replica { placed = true }

  first : IsReached (with_replica state r later)
  first = replica_changes state r replica later reached there (omega arith) (record {
    fetched = (reached.replicas r replica there).fetched;
    known = (reached.replicas r replica there).known;
    space = (reached.replicas r replica there).space;
  })
      (λ u i. still_collected state r replica later u reached there (omega arith) (λ h e. absurd (false≢true (sym e))) i)
      (reached.batches r replica there)

  asked : (entry : LogEntry) → (u : Collected) × In u replica.batch × (u.entry ≡ entry)
      → (made : Invocation) × (call_at state.events entry.call ≡ Some made) × (request_made made ≡ Update entry.op)
  asked entry (u, i, e) =
      let item = reached.collected r replica u there i in (
        made_of state.layout u.thread (Update u.entry.op),
        ap (λ (x : LogEntry). call_at state.events x.call) (sym e) ∙ item.asks,
        ap (λ (x : LogEntry). Update x.op) e,
      )

  fresh : (call : ℕ) → (u : Collected) × In u replica.batch × (u.entry.call ≡ call) → IsFresh state.log call
  fresh call (u, i, e) = subst (IsFresh state.log) e ((reached.collected r replica u there i).fresh unplaced)

  not_waiting : (t : ℕ) (thread : Thread) (call : ℕ) → At state.threads t thread → waiting_in thread.stage ≡ Some call
      → (u : Collected) × In u replica.batch × (u.entry.call ≡ call) → ⊥
  not_waiting t thread call at is (u, i, e) = waiting_not_collected state r t call replica u thread reached there i at is e

  other : (q : ℕ) (x : Replica) (v : Collected) → (q ≡ r → ⊥) → At state.replicas q x → In v x.batch
      → (u : Collected) × In u replica.batch × (u.entry.call ≡ v.entry.call) → ⊥
  other q x v out at j (u, i, e) =
      let of_r = reached.collected r replica u there i in
      let of_q = reached.collected q x v at j in
      let same = same_thread state u.entry.call v.entry.call u.thread v.thread (made_of state.layout u.thread (Update u.entry.op)) e refl
      (made_of state.layout v.thread (Update v.entry.op)) refl of_r.asks of_q.asks in
      out (sym of_q.home ∙ ap (λ n. n % state.layout.replicas) (sym same) ∙ of_r.home)
