-- Take and Release.
use Rattle.std.proofs.Common.{ℕ, Option, refl, arith}
use Rattle.nr_core.specs.State.{State, Thread, Replica, with_thread, with_replica}
use Rattle.nr_core.specs.inside.Reached.{At, IsReached}
use Rattle.nr_core.proofs.reached.Changes.{thread_changes, replica_changes, still_collected, collected_keep}

-- locks change nothing else
pub locks_keep : (state : State) (t r : ℕ) (thread : Thread) (replica : Replica) (holds holder : Option ℕ) → IsReached state → At state.threads t thread
    → At state.replicas r replica
    → IsReached (with_replica (with_thread state t (record thread { holds = holds })) r (record replica { holder = holder }))
locks_keep state t r thread replica holds holder reached at there =
    let next : Thread = record thread { holds = holds } in
    let later : Replica = record replica { holder = holder } in
    let first : IsReached (with_thread state t next) =
    thread_changes state t thread next reached at refl (reached.threads t thread at) (λ c e. e) (collected_keep state t thread next reached at (λ c e. e)) in
    replica_changes (with_thread state t next) r replica later first there (omega arith) (record {
      fetched = (reached.replicas r replica there).fetched;
      known = (reached.replicas r replica there).known;
      space = (reached.replicas r replica there).space;
    })
    (λ update i. still_collected (with_thread state t next) r replica later update first there (omega arith) (λ h. h) i) (reached.batches r replica there)
