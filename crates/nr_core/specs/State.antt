-- The state of the protocol (Node Replication, ASPLOS 2017): what all threads and replicas are doing. A replica is the set of its
-- pages here, and no table of them; the log keeps all its entries.
use Rattle.std.specs.Prelude.{ℕ, ◌%◌, List, [], length, map, replicate, slice_set, Bool, false, ◌==◌, Option, None}
use Rattle.vs_types.specs.Config.{Layout}
use Rattle.vs_types.specs.Space.{Space, no_pages}
use Rattle.vs_types.specs.declared.log_entry.LogEntry.{LogEntry}
use Rattle.vs_types.specs.declared.requests.request.Query.{Query}
use Rattle.nr_trace.specs.declared.recordings.event.Event.{Event}
use Rattle.nr_core.specs.declared.states.stage.Stage.{Stage}
use Rattle.nr_core.specs.declared.states.stage.Stage.TheVariants.{Idle}
use Rattle.nr_core.specs.declared.states.stage.Collected.{Collected}

-- a thread: the requests left of its script, how far it has come with its call, and the replica whose lock it holds
pub record Thread : Type 0 where
  pub script : List Query
  pub stage : Stage
  pub holds : Option ℕ

-- a replica: the thread that holds its lock, its batch, and whether that is in the log. It has the number of entries that
-- it has fetched, which is its local tail, and of those that it has applied, and its space after them
pub record Replica : Type 0 where
  pub holder : Option ℕ
  pub batch : List Collected
  pub placed : Bool
  pub local : ℕ
  pub applied : ℕ
  pub space : Space

-- what is recorded, the log, the completed tail, each replica, each thread
pub record State : Type 0 where
  pub layout : Layout
  pub events : List Event
  pub log : List LogEntry
  pub completed : ℕ
  pub replicas : List Replica
  pub threads : List Thread

-- a thread that has made no call
abbrev pub new_thread : List Query → Thread
new_thread script = record { script = script; stage = Idle; holds = None }

-- a replica that has applied nothing
abbrev pub new_replica : Replica
new_replica = record { holder = None; batch = []; placed = false; local = 0; applied = 0; space = no_pages }

-- the state at the start: nothing is recorded, no call is open, and no lock is held
abbrev pub start : Layout → List (List Query) → State
start layout scripts = record {
  layout = layout;
  events = [];
  log = [];
  completed = 0;
  replicas = replicate layout.replicas new_replica;
  threads = map new_thread scripts;
}

-- the place at which the next entry of the log will be
abbrev pub tail : State → ℕ
tail state = length state.log

-- the replica to which a thread belongs
abbrev pub home : State → ℕ → ℕ
home state t = t % state.layout.replicas

-- all that a replica has fetched is applied
abbrev pub has_applied_all : Replica → Bool
has_applied_all replica = replica.applied == replica.local

-- the state with another thread or replica in the place of this number
abbrev pub with_thread : State → ℕ → Thread → State
with_thread state t thread = record state { threads = slice_set state.threads t thread }

-- the state with another replica in the place of this number
abbrev pub with_replica : State → ℕ → Replica → State
with_replica state r replica = record state { replicas = slice_set state.replicas r replica }
