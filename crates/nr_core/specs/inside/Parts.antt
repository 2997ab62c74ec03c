-- How the code keeps the parts of a state.
use Rattle.std.specs.Prelude.{ℕ, ◌≡◌, ◌+◌, ◌*◌, ◌≤◌, List, None, length, drop, map, All, sum_by}
use Rattle.std.specs.Global.{Vec}
use Rattle.vs_types.specs.Config.{Layout}
use Rattle.vs_types.specs.Operation.{IsAction}
use Rattle.vs_types.specs.Query.{IsQuery}
use Rattle.vs_types.specs.declared.addresses.depth.Depth.{Depth}
use Rattle.vs_types.specs.declared.requests.request.Query.{Query}
use Rattle.vs_types.specs.declared.requests.request.Query.TheVariants.{Update}
use Rattle.vs_types.specs.declared.limits.TheConstants.{LOG_PLACES, CALLS}
use Rattle.vs_types.specs.declared.log_entry.LogEntry.{LogEntry}
use Rattle.nr_trace.specs.Recording.{IsEvent}
use Rattle.nr_trace.specs.declared.recordings.event.Event.{Event}
use Rattle.nr_trace.specs.declared.formats.version.Version.TheVariants.{V2}
use Rattle.nr_core.specs.State.{State, Thread, Replica}
use Rattle.nr_core.specs.declared.states.parts.ThreadState.{ThreadState}
use Rattle.nr_core.specs.declared.states.parts.ReplicaState.{ReplicaState}
use Rattle.nr_core.specs.declared.states.parts.Marks.{Marks}
use Rattle.nr_core.specs.declared.states.stage.Stage.{Stage}
use Rattle.nr_core.specs.declared.states.stage.Stage.TheVariants.{Idle, Called, Posted, Taken, Ready, Looked, HasRead}

abbrev pub thread_in : ThreadState → Thread
thread_in t = record { script = drop t.made t.script.items; stage = t.stage; holds = t.holds }

abbrev pub replica_in : ReplicaState → Replica
replica_in r = record {
  holder = r.marks.holder;
  batch = r.batch.items;
  placed = r.marks.placed;
  local = r.marks.local;
  applied = r.marks.applied;
  space = r.table.of.0;
}

-- how far a replica has come; and the replica that has come so far
abbrev pub marks_of : Replica → Marks
marks_of replica = record { holder = replica.holder; placed = replica.placed; local = replica.local; applied = replica.applied }

abbrev pub with_marks : Replica → Marks → Replica
with_marks replica marks = record replica { holder = marks.holder; placed = marks.placed; local = marks.local; applied = marks.applied }

-- a state as it is stored
pub record Parts : Type 0 where
  pub layout : Layout
  pub events : List Event
  pub log : List LogEntry
  pub completed : ℕ
  pub replicas : List ReplicaState
  pub threads : List ThreadState

-- the state of which these are the parts
abbrev pub state_in : Parts → State
state_in parts = record {
  layout = parts.layout;
  events = parts.events;
  log = parts.log;
  completed = parts.completed;
  replicas = map replica_in parts.replicas;
  threads = map thread_in parts.threads;
}

-- a well-formed read
abbrev pub FitsRead : Depth → Query → Type 0
FitsRead depth (Update action) = ⊥
FitsRead depth request = IsQuery depth request

-- the thread of a script, at the start
abbrev pub thread_of : Vec Query → ThreadState
thread_of script = record { script = script; made = 0; stage = Idle; holds = None }

-- what a stage has of a call is well formed at the depth
abbrev pub IsStage : Depth → Stage → Type 0
IsStage depth Idle = Unit {0}
IsStage depth (Called call request) = IsQuery depth request
IsStage depth (Posted call action) = IsAction depth action
IsStage depth (Taken call) = Unit {0}
IsStage depth (Ready answered) = Unit {0}
IsStage depth (Looked call request completed) = FitsRead depth request
IsStage depth (HasRead answered) = Unit {0}

-- how many events the open call has still to record
abbrev pub stage_left : Stage → ℕ
stage_left Idle = 0
stage_left stage = 1

abbrev pub events_left : ThreadState → ℕ
events_left t = 2 * length (drop t.made t.script.items) + stage_left t.stage

pub record IsThread (depth : Depth) (t : ThreadState) : Type 0 where
  pub script : All (IsQuery depth) t.script.items
  pub stage : IsStage depth t.stage

pub record IsReplica (layout : Layout) (r : ReplicaState) : Type 0 where
  pub depth : r.table.pages.depth ≡ layout.depth
  pub limit : r.table.pages.limit ≡ layout.tables
  pub batch : All (λ update. IsAction layout.depth update.entry.op) r.batch.items

-- what holds of the parts of each state
pub record AreParts (parts : Parts) : Type 0 where
  pub each_thread : All (IsThread parts.layout.depth) parts.threads
  pub each_replica : All (IsReplica parts.layout) parts.replicas
  pub one_replica_each : length parts.replicas ≡ parts.layout.replicas
  pub one_thread_each : length parts.threads ≡ parts.layout.threads
  pub entries : All (λ entry. IsAction parts.layout.depth entry.op) parts.log
  pub few_entries : length parts.log ≤ LOG_PLACES
  pub recorded : All (IsEvent V2 parts.layout) parts.events
  pub few_events : length parts.events + sum_by events_left parts.threads ≤ CALLS
