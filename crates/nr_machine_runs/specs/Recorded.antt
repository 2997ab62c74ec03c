-- Runs of the machine whose calls and replies are recorded, where what a node keeps is an address space. A call is recorded before its
-- update is given to a machine, or its read begins; and a reply once the machine's call is over.
use Rattle.std.specs.Prelude.{◌≡◌, ℕ, ◌+◌, ◌<◌, ◌≤◌, ◌⊎◌, Bool, true, false, List, [], ◌∷◌, ◌++◌, length, replicate, slice_get, slice_set, Some, None, ⊤}
use Rattle.vs_types.specs.Config.{Layout}
use Rattle.vs_types.specs.Space.{Space, no_pages}
use Rattle.vs_types.specs.Step.{step}
use Rattle.vs_types.specs.declared.requests.answer.Answer.{Answer}
use Rattle.vs_types.specs.declared.log_entry.LogEntry.{LogEntry}
use Rattle.vs_types.specs.declared.requests.request.Query.{Query}
use Rattle.vs_types.specs.declared.requests.request.Query.TheVariants as queries
use Rattle.nr_trace.specs.Calls.{operation_in}
use Rattle.nr_trace.specs.Orders.{answer_in}
use Rattle.nr_trace.specs.Recording.{Recording}
use Rattle.nr_trace.specs.declared.recordings.event.Event.{Event}
use Rattle.nr_trace.specs.declared.recordings.event.Event.TheVariants as events
use Rattle.nr_trace.specs.declared.recordings.event.Asked.TheVariants as askeds
use Rattle.nr_core.specs.Run.{IsRecordingOf}
use Rattle.nr_core.specs.State.{Replica, State, Thread, new_thread}
use Rattle.nr_core.specs.declared.states.stage.Stage.TheVariants.{Taken}
use Rattle.nr_machine.specs.declared.words.Update.{Update}
use Rattle.nr_machine.specs.Actor.{update_at}
use Rattle.nr_machine.specs.States.{Kind, Nodes, Reply, at_first, followed}
use Rattle.nr_machine.specs.States.Reply.{Updated, Saw}
use Rattle.nr_machine.specs.Words.{with_at}
use Rattle.nr_machine.specs.World.{Act, MayAct}
use Rattle.nr_machine.specs.World.Act.{Begins, ReadBegins}
use Rattle.nr_machine_runs.specs.History.{entries_to, values_to}

-- the entries change the one sequential address space
abbrev pub space_kind : Layout → (Update → LogEntry) → Kind Space Answer
space_kind layout means = record {
  step = λ space update. (step layout.depth layout.tables space (means update).op).space;
  answer = λ space update. (step layout.depth layout.tables space (means update).op).answer;
  initial = no_pages;
}

-- a thread that has no call open
abbrev pub idle : Thread
idle = new_thread []

-- a thread that waits for the reply to a call
abbrev pub waiting : ℕ → Thread
waiting call = record idle { stage = Taken call }

-- the nodes; what is recorded, and of each thread whether it waits; whether the update of a call was given to a machine; and for which call
-- each of the machine's reads is
pub record Run : Type 0 where
  pub nodes : Nodes Space Answer
  pub events : List Event
  pub threads : List Thread
  pub given : ℕ → Bool
  pub reads : ℕ → ℕ

-- a thread's call is recorded; a step of the schedule; a read begins at a node, for a call; a reply to a thread is recorded
pub data Note : Type 0 where
  Calls : (thread replica : ℕ) → (request : Query) → Note
  Takes : (act : Act) → Note
  Reads : (node call : ℕ) → Note
  Replies : (thread call at : ℕ) → (answer : Answer) → Note

-- the entry is of a recorded call of an update at the node
abbrev pub IsCallAt : List Event → ℕ → LogEntry → Type 0
IsCallAt recorded n entry = (thread : ℕ) × (slice_get recorded entry.call ≡ Some (events.Call n thread (askeds.Request (queries.Update entry.op))))

-- it is a recorded call at the node that reads
abbrev pub IsReadAt : List Event → ℕ → ℕ → Type 0
IsReadAt recorded n call =
    (thread : ℕ) × (request : Query) × (slice_get recorded call ≡ Some (events.Call n thread (askeds.Request request))) × (operation_in request ≡ None)

-- the updates are of calls at the node that were given to no machine before
abbrev pub MayGive : (Update → LogEntry) → List Event → ℕ → (ℕ → Bool) → List Update → Type 0
MayGive means recorded n given [] = ⊤
MayGive means recorded n given (update ∷ updates) = IsCallAt recorded n (means update) × (given (means update).call ≡ false)
    × MayGive means recorded n (with_at given (means update).call true) updates

-- the calls whose updates were given to a machine, with these
abbrev pub given_with : (Update → LogEntry) → (ℕ → Bool) → List Update → ℕ → Bool
given_with means given [] = given
given_with means given (update ∷ updates) = given_with means (with_at given (means update).call true) updates

-- the calls whose updates were given to a machine, after a step
abbrev pub given_by : (Update → LogEntry) → (ℕ → Bool) → Act → ℕ → Bool
given_by means given (Begins n batch) = given_with means given batch
given_by means given act = given

-- what a machine's reply gives a call: one of an update its place and its answer, one of a read as many entries as it saw, and the answer
-- that the space has
abbrev pub Gives : Layout → (Update → LogEntry) → Run → Reply Space Answer → ℕ → ℕ → Answer → Type 0
Gives layout means run (Updated c first batch answers) call at answer =
    (i : ℕ) × (i < length batch) × ((means (update_at batch i)).call ≡ call) × (at ≡ first + i) × (slice_get answers i ≡ Some answer)
Gives layout means run (Saw c count space) call at answer = (run.reads c ≡ call) × (at ≡ count)
    × (n : ℕ) × (thread : ℕ) × (request : Query) × (slice_get run.events call ≡ Some (events.Call n thread (askeds.Request request)))
    × (answer ≡ answer_in layout space request)

-- some of the replies gives this to the call
abbrev pub SomeGives : Layout → (Update → LogEntry) → Run → List (Reply Space Answer) → ℕ → ℕ → Answer → Type 0
SomeGives layout means run [] call at answer = ⊥
SomeGives layout means run (reply ∷ replies) call at answer =
    Gives layout means run reply call at answer ⊎ SomeGives layout means run replies call at answer

-- what is asked of each note. A thread has one call open, each update is that of a call, each read is for a call at its node, and a reply
-- says what a machine's reply gave
abbrev pub MayNote : Layout → (Update → LogEntry) → Run → Note → Type 0
MayNote layout means run (Calls t r request) = slice_get run.threads t ≡ Some idle
MayNote layout means run (Takes (Begins n batch)) =
    MayAct layout.replicas run.nodes.world (Begins n batch) × MayGive means run.events n run.given batch
MayNote layout means run (Takes (ReadBegins n)) = ⊥
MayNote layout means run (Takes act) = MayAct layout.replicas run.nodes.world act
MayNote layout means run (Reads n call) = MayAct layout.replicas run.nodes.world (ReadBegins n) × IsReadAt run.events n call
MayNote layout means run (Replies t call at answer) =
    (slice_get run.threads t ≡ Some (waiting call)) × SomeGives layout means run run.nodes.replies call at answer

-- the run with a note more
abbrev pub noted : Layout → (Update → LogEntry) → Run → Note → Run
noted layout means run (Calls t r request) = record run {
  events = run.events ++ events.Call r t (askeds.Request request) ∷ [];
  threads = slice_set run.threads t (waiting (length run.events));
}
noted layout means run (Takes act) = record run {
  nodes = followed (space_kind layout means) run.nodes act;
  given = given_by means run.given act;
}
noted layout means run (Reads n call) = record run {
  nodes = followed (space_kind layout means) run.nodes (ReadBegins n);
  reads = with_at run.reads run.nodes.world.calls call;
}
noted layout means run (Replies t call at answer) = record run {
  events = run.events ++ events.Reply call at answer ∷ [];
  threads = slice_set run.threads t idle;
}

-- each note may come where it is
abbrev pub MayAll : Layout → (Update → LogEntry) → Run → List Note → Type 0
MayAll layout means run [] = ⊤
MayAll layout means run (note ∷ notes) = MayNote layout means run note × MayAll layout means (noted layout means run note) notes

-- the run with all notes
abbrev pub noted_all : Layout → (Update → LogEntry) → Run → List Note → Run
noted_all layout means run [] = run
noted_all layout means run (note ∷ notes) = noted_all layout means (noted layout means run note) notes

-- the run before the first note
abbrev pub new_run : Layout → (Update → LogEntry) → Run
new_run layout means = record {
  nodes = at_first layout.replicas (space_kind layout means);
  events = [];
  threads = replicate layout.threads idle;
  given = λ call. false;
  reads = λ c. 0;
}

-- what the core's state has of a node: how many entries it has applied, and its space
abbrev pub replica_of : Nodes Space Answer → ℕ → Replica
replica_of nodes r = record {
  holder = None;
  batch = [];
  placed = false;
  local = (nodes.world.actor r).applied;
  applied = (nodes.world.actor r).applied;
  space = nodes.state r;
}

-- what the core's state has of a run: the events, the entries of the log, and the nodes
abbrev pub state_of : Layout → (Update → LogEntry) → Run → State
state_of layout means run = record {
  layout = layout;
  events = run.events;
  log = entries_to means run.nodes.world.log.entry run.nodes.world.log.tail;
  completed = run.nodes.world.log.tail;
  replicas = values_to (replica_of run.nodes) layout.replicas;
  threads = run.threads;
}

-- a recording of some run: its events, the call at each place of the log, and a dump of each node
pub record IsRecordingOfRun (trace : Recording) : Type 0 where
  pub layout : Layout
  pub few : layout.replicas ≤ 64
  pub means : Update → LogEntry
  pub notes : List Note
  pub may : MayAll layout means (new_run layout means) notes
  pub recorded : IsRecordingOf (state_of layout means (noted_all layout means (new_run layout means) notes)) trace
