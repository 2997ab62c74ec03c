-- Advance.
use Rattle.std.proofs.Common.{ℕ, ◌≤◌, length, arith}
use Rattle.nr_core.specs.State.{State, Replica, tail, with_replica}
use Rattle.nr_core.specs.inside.Reached.{At, IsReached}
use Rattle.nr_core.proofs.reached.Changes.{completed_rises, replica_changes, still_collected}

pub advanced : (state : State) (r : ℕ) (replica : Replica) → IsReached state → At state.replicas r replica
    → IsReached (with_replica (record state { completed = tail state }) r (record replica { local = tail state }))
advanced state r replica reached there =
    let later : Replica = record replica { local = tail state } in
    let first = completed_rises state (tail state) reached reached.completed (omega arith) in
    let is = reached.replicas r replica there in
    replica_changes (record state { completed = tail state }) r replica later first there (omega arith) (record {
      fetched = within is.fetched is.known reached.completed;
      known = omega arith;
      space = is.space;
    })
    (λ update i. still_collected (record state { completed = tail state }) r replica later update first there (omega arith) (λ h. h) i)
    (reached.batches r replica there) where
      within : replica.applied ≤ replica.local → replica.local ≤ state.completed → state.completed ≤ length state.log → replica.applied ≤ length state.log
      within a b c = omega arith
