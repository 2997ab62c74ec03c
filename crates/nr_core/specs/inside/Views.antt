-- What the code reads of a state.
use Rattle.std.specs.Prelude.{◌≡◌, ℕ, ◌<◌, ◌≤◌, List, ◌∷◌, slice_get, Option, Some}
use Rattle.vs_types.specs.Operation.{IsAction}
use Rattle.vs_types.specs.Query.{IsQuery}
use Rattle.vs_types.specs.declared.limits.TheConstants.{LOG_PLACES}
use Rattle.vs_types.specs.declared.log_entry.LogEntry.{LogEntry}
use Rattle.vs_types.specs.declared.requests.request.Query.{Query}
use Rattle.nr_core.specs.State.{State, Thread, Replica}
use Rattle.nr_core.specs.declared.states.stage.Stage.{Stage}
use Rattle.nr_core.specs.declared.states.stage.Stage.TheVariants.{Idle}
use Rattle.nr_core.specs.declared.states.parts.ReplicaState.{ReplicaState}
use Rattle.nr_core.specs.inside.Parts.{replica_in, IsStage, stage_left, IsReplica}

-- the thread is at this stage, which is well formed
pub record IsAt (state : State) (t : ℕ) (stage : Stage) : Type 0 where
  pub thread : Thread
  pub there : slice_get state.threads t ≡ Some thread
  pub is : thread.stage ≡ stage
  pub fits : IsStage state.layout.depth stage

-- the thread may go on to this stage: it has no more events left to record
pub record MayGoTo (state : State) (t : ℕ) (stage : Stage) : Type 0 where
  pub thread : Thread
  pub there : slice_get state.threads t ≡ Some thread
  pub left : stage_left stage ≤ stage_left thread.stage
  pub fits : IsStage state.layout.depth stage

-- the thread has a call open
abbrev pub IsOpen : State → ℕ → Type 0
IsOpen state t = (thread : Thread) × (slice_get state.threads t ≡ Some thread) × (stage_left thread.stage ≡ 1)

-- what a thread holds
abbrev pub HoldsJust : State → ℕ → Option ℕ → Type 0
HoldsJust state t holds = (thread : Thread) × (slice_get state.threads t ≡ Some thread) × (thread.holds ≡ holds)

-- what is stored of a replica
abbrev pub IsStored : State → ℕ → ReplicaState → Type 0
IsStored state r stored = (slice_get state.replicas r ≡ Some (replica_in stored)) × IsReplica state.layout stored

-- the thread holds the lock of this replica
pub record HoldsLock (state : State) (t r : ℕ) : Type 0 where
  pub thread : Thread
  pub replica : Replica
  pub there : slice_get state.threads t ≡ Some thread
  pub holds : thread.holds ≡ Some r
  pub is : slice_get state.replicas r ≡ Some replica

-- the thread may make this call next
pub record MayCall (state : State) (t : ℕ) (request : Query) : Type 0 where
  pub thread : Thread
  pub left : List Query
  pub there : slice_get state.threads t ≡ Some thread
  pub idle : thread.stage ≡ Idle
  pub next : thread.script ≡ request ∷ left
  pub fits : IsQuery state.layout.depth request
  pub in_range : t < state.layout.threads

-- the replica may apply the entry next
pub record MayApply (state : State) (r : ℕ) (entry : LogEntry) : Type 0 where
  pub replica : Replica
  pub there : slice_get state.replicas r ≡ Some replica
  pub fits : IsAction state.layout.depth entry.op
  pub in_range : replica.applied < LOG_PLACES

-- the entry is at this place
abbrev pub IsEntry : State → ℕ → LogEntry → Type 0
IsEntry state place entry = (slice_get state.log place ≡ Some entry) × IsAction state.layout.depth entry.op × (place < LOG_PLACES)
