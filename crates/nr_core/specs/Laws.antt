-- What the laws of `src/laws.rt` say of states.
use Rattle.std.specs.Prelude.{◌≡◌, ℕ, List, slice_get, Option, Some, option_map}
use Rattle.nr_core.specs.State.{State, Thread, Replica}
use Rattle.nr_core.specs.Steps.{by_holder, by_thread, noted_for, with_ready}
use Rattle.nr_core.specs.declared.states.stage.Stage.TheVariants.{Taken}

-- the thread's update, of this call, is taken
abbrev pub IsTaken : List Thread → ℕ → ℕ → Type 0
IsTaken threads t call = (thread : Thread) × (slice_get threads t ≡ Some thread) × (thread.stage ≡ Taken call)

-- Answer s, where it asks for the note alone: where an answer is noted for s, it is in the slot of s, and the update leaves the batch
abbrev pub answer_noted : State → ℕ → ℕ → Option State
answer_noted state t s =
    by_holder state t (λ thread r replica. by_thread state s (λ other. option_map (with_ready state r replica s other) (noted_for s replica)))

-- thread t says that it holds the lock of replica r
abbrev pub HoldsLockOf : State → ℕ → ℕ → Type 0
HoldsLockOf state t r = (thread : Thread) × (slice_get state.threads t ≡ Some thread) × (thread.holds ≡ Some r)

-- replica r says that thread t holds its lock
abbrev pub HasHolder : State → ℕ → ℕ → Type 0
HasHolder state r t = (replica : Replica) × (slice_get state.replicas r ≡ Some replica) × (replica.holder ≡ Some t)
