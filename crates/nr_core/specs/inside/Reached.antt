-- What holds of each state that steps can reach: why its recording has no fault.
use Rattle.std.specs.Prelude.{◌≡◌, ℕ, ◌+◌, ◌%◌, ◌<◌, ◌≤◌, ◌⊎◌, List, length, map, take, slice_get, Bool, false, Option, Some, None, option_and_then, nat_eq, ⊤}
use Rattle.std.specs.Option.{option_map_or}
use Rattle.std.specs.List.{IsDistinct}
use Rattle.vs_types.specs.Config.{Layout}
use Rattle.vs_types.specs.Space.{Space, no_pages}
use Rattle.vs_types.specs.Step.{after_all}
use Rattle.vs_types.specs.declared.requests.answer.Answer.{Answer}
use Rattle.vs_types.specs.declared.log_entry.LogEntry.{LogEntry}
use Rattle.vs_types.specs.declared.requests.op.Action.{Action}
use Rattle.vs_types.specs.declared.requests.request.Query.{Query}
use Rattle.vs_types.specs.declared.requests.request.Query.TheVariants.{Update, Resolve, Access}
use Rattle.nr_trace.specs.Calls.{Invocation, made_by, operation_in, Response, reply_in}
use Rattle.nr_trace.specs.Orders.{answer_in}
use Rattle.nr_trace.specs.declared.recordings.event.Event.{Event}
use Rattle.nr_trace.specs.declared.recordings.event.Asked.{Asked}
use Rattle.nr_trace.specs.declared.recordings.event.Asked.TheVariants as askeds
use Rattle.nr_trace.proofs.LawsOfLists.{In}
use Rattle.nr_core.specs.State.{State, Thread, Replica}
use Rattle.nr_core.specs.Laws.{IsTaken}
use Rattle.nr_core.specs.declared.states.stage.Answered.{Answered}
use Rattle.nr_core.specs.declared.states.stage.Collected.{Collected}
use Rattle.nr_core.specs.declared.states.stage.Stage.{Stage}
use Rattle.nr_core.specs.declared.states.stage.Stage.TheVariants.{Idle, Called, Posted, Taken, Ready, Looked, HasRead}

-- the list has the element at the index
abbrev pub At : {X : Type 0} → List X → ℕ → X → Type 0
At xs index x = slice_get xs index ≡ Some x

-- the call and the reply that events have at an index
abbrev pub call_at : List Event → ℕ → Option Invocation
call_at events index = option_and_then made_by (slice_get events index)

abbrev pub reply_at : List Event → ℕ → Option Response
reply_at events index = option_and_then reply_in (slice_get events index)

-- the event of this index replies to the call
abbrev pub RepliesTo : List Event → ℕ → ℕ → Type 0
RepliesTo events index call = (reply : Response) × (reply_at events index ≡ Some reply) × (reply.call ≡ call)

-- the call of a thread with this request
abbrev pub made_of : Layout → ℕ → Query → Invocation
made_of layout t request = record { replica = t % layout.replicas; thread = t; asked = askeds.Request request }

-- what a call asks, as a request: nothing but requests is asked here
abbrev pub query_in : Asked → Query
query_in (askeds.Request request) = request
query_in (askeds.Touch address mode access) = Access address mode access
query_in (askeds.Release size phys) = Resolve phys

abbrev pub request_made : Invocation → Query
request_made made = query_in made.asked

-- how many entries are known by an answer that is at a place: up to the update's own, or those that the read saw
abbrev pub reach : Query → ℕ → ℕ
reach request at = option_map_or (λ action. at + 1) (operation_in request) at

-- by each reply before the call at most so many entries are known
abbrev pub Behind : List Event → ℕ → ℕ → Type 0
Behind events call n = (index : ℕ) (reply : Response) (made : Invocation) → index < call → reply_at events index ≡ Some reply
    → call_at events reply.call ≡ Some made → reach (request_made made) reply.at ≤ n

-- the calls of log entries, and the space after the first n of them
abbrev pub calls_of : List LogEntry → List ℕ
calls_of log = map (λ entry. entry.call) log

abbrev pub space_at : Layout → List LogEntry → ℕ → Space
space_at layout log n = after_all layout.depth layout.tables no_pages (map (λ entry. entry.op) (take n log))

-- what the threads of a state share
pub record Shared : Type 0 where
  pub events : List Event
  pub log : List LogEntry
  pub completed : ℕ
  pub replicas : List Replica

abbrev pub shared_in : State → Shared
shared_in state = record { events = state.events; log = state.log; completed = state.completed; replicas = state.replicas }

-- an answer of a call: an update's place has the call, and all entries that are known by it are completed, and applied at
-- the call's replica. It is what the space gives before its place, and no more were known when the call was made
pub record IsRight (layout : Layout) (shared : Shared) (made : Invocation) (call at : ℕ) (answer : Answer) : Type 0 where
  pub placed : (action : Action) → operation_in (request_made made) ≡ Some action → (entry : LogEntry) × At shared.log at entry × (entry.call ≡ call)
  pub known : reach (request_made made) at ≤ shared.completed
  pub here : (replica : Replica) → At shared.replicas made.replica replica → reach (request_made made) at ≤ replica.applied
  pub answered : answer ≡ answer_in layout (space_at layout shared.log at) (request_made made)
  pub in_time : Behind shared.events call at

-- what a stage says of the call, its request and its answer
abbrev pub FitsStage : Layout → Shared → ℕ → Stage → Type 0
FitsStage layout shared t Idle = ⊤
FitsStage layout shared t (Called call request) = call_at shared.events call ≡ Some (made_of layout t request)
FitsStage layout shared t (Posted call action) = call_at shared.events call ≡ Some (made_of layout t (Update action))
FitsStage layout shared t (Taken call) = ⊤
FitsStage layout shared t (Ready a) = (request : Query) × (call_at shared.events a.call ≡ Some (made_of layout t request))
    × IsRight layout shared (made_of layout t request) a.call a.at a.answer
FitsStage layout shared t (Looked call request noted) = (call_at shared.events call ≡ Some (made_of layout t request))
    × (operation_in request ≡ None) × Behind shared.events call noted
FitsStage layout shared t (HasRead a) = (request : Query) × (call_at shared.events a.call ≡ Some (made_of layout t request))
    × IsRight layout shared (made_of layout t request) a.call a.at a.answer

-- the call that is open in a stage; and the one that no combiner has taken yet
abbrev pub open_in : Stage → Option ℕ
open_in Idle = None
open_in (Called call request) = Some call
open_in (Posted call action) = Some call
open_in (Taken call) = Some call
open_in (Ready a) = Some a.call
open_in (Looked call request noted) = Some call
open_in (HasRead a) = Some a.call

abbrev pub waiting_in : Stage → Option ℕ
waiting_in Idle = None
waiting_in (Called call request) = Some call
waiting_in (Posted call action) = Some call
waiting_in (Taken call) = None
waiting_in (Ready a) = None
waiting_in (Looked call request noted) = None
waiting_in (HasRead a) = None

-- a call of the thread, with no reply
abbrev pub IsUnanswered : List Event → ℕ → ℕ → Type 0
IsUnanswered events t call = (made : Invocation) × (call_at events call ≡ Some made) × (made.thread ≡ t) × ((index : ℕ) → RepliesTo events index call → ⊥)

-- the thread has the call open
abbrev pub HasOpen : List Thread → ℕ → ℕ → Type 0
HasOpen threads t call = (thread : Thread) × At threads t thread × (open_in thread.stage ≡ Some call)

-- the call isn't in the log
abbrev pub IsFresh : List LogEntry → ℕ → Type 0
IsFresh log call = In call (calls_of log) → ⊥

-- an update in the batch of replica r: of a thread of r, whose call is taken; its answer, if one is noted, is right; and it is
-- in the log only if the batch does
pub record IsCollected (layout : Layout) (shared : Shared) (threads : List Thread) (r : ℕ) (placed : Bool) (update : Collected) : Type 0 where
  pub home : update.thread % layout.replicas ≡ r
  pub taken : IsTaken threads update.thread update.entry.call
  pub asks : call_at shared.events update.entry.call ≡ Some (made_of layout update.thread (Update update.entry.op))
  pub noted : (a : Answered) → update.noted ≡ Some a → (a.call ≡ update.entry.call)
      × IsRight layout shared (made_of layout update.thread (Update update.entry.op)) a.call a.at a.answer
  pub fresh : placed ≡ false → IsFresh shared.log update.entry.call

-- a replica has applied no more than it has fetched, and that is completed; its space is that after what is applied
pub record IsReplicaOf (layout : Layout) (log : List LogEntry) (completed : ℕ) (replica : Replica) : Type 0 where
  pub fetched : replica.applied ≤ replica.local
  pub known : replica.local ≤ completed
  pub space : replica.space ≡ space_at layout log replica.applied

-- a call is open or answered; a reply answers rightly a call before it; none is answered twice; and a thread's calls do not overlap
pub record AreCalls (events : List Event) (threads : List Thread) : Type 0 where
  pub opened : (t : ℕ) (thread : Thread) (call : ℕ) → At threads t thread → open_in thread.stage ≡ Some call → IsUnanswered events t call
  pub ended : (call : ℕ) (made : Invocation) → call_at events call ≡ Some made
      → HasOpen threads made.thread call ⊎ ((index : ℕ) × RepliesTo events index call)
  pub once : (first second call : ℕ) → first < second → RepliesTo events first call → RepliesTo events second call → ⊥
  pub in_turn : (earlier later : ℕ) (first second : Invocation) → earlier < later → call_at events earlier ≡ Some first → call_at events later ≡ Some second
      → first.thread ≡ second.thread → (index : ℕ) × (index < later) × RepliesTo events index earlier

abbrev pub AreReplies : Layout → Shared → Type 0
AreReplies layout shared = (index : ℕ) (reply : Response) → reply_at shared.events index ≡ Some reply
    → (made : Invocation) × (reply.call < index) × (call_at shared.events reply.call ≡ Some made)
    × IsRight layout shared made reply.call reply.at reply.answer

-- the log's entries are calls of updates, and none is known at a place after its own when it is called
abbrev pub AreEntries : List Event → List LogEntry → Type 0
AreEntries events log = (place : ℕ) (entry : LogEntry) → At log place entry
    → (made : Invocation) × (call_at events entry.call ≡ Some made) × (request_made made ≡ Update entry.op) × Behind events entry.call place

abbrev pub AreCollected : Layout → Shared → List Thread → Type 0
AreCollected layout shared threads = (r : ℕ) (replica : Replica) (update : Collected) → At shared.replicas r replica → In update replica.batch
    → IsCollected layout shared threads r replica.placed update

-- of each state that steps can reach, whatever they are
pub record IsReached (state : State) : Type 0 where
  -- each call is open or answered, none is answered twice, and a thread makes one after the other
  pub calls : AreCalls state.events state.threads
  -- each reply answers a call before it, and rightly
  pub replies : AreReplies state.layout (shared_in state)
  -- what the stage of a thread says of its open call is so
  pub threads : (t : ℕ) (thread : Thread) → At state.threads t thread
      → FitsStage state.layout (shared_in state) t thread.stage
  -- a call that no combiner has taken isn't in the log
  pub waiting : (t : ℕ) (thread : Thread) (call : ℕ) → At state.threads t thread → waiting_in thread.stage ≡ Some call → IsFresh state.log call
  -- each entry of the log is the call of an update, and comes after all that was known when that was made
  pub entries : AreEntries state.events state.log
  -- no call is at two places of the log
  pub distinct : IsDistinct nat_eq (calls_of state.log)
  -- the log has all that is completed
  pub completed : state.completed ≤ length state.log
  -- each replica has the space after what it has applied; it has fetched that, and what it has fetched is completed
  pub replicas : (r : ℕ) (replica : Replica) → At state.replicas r replica → IsReplicaOf state.layout state.log state.completed replica
  -- each update of a batch is taken from a thread of that replica, and the answer that is noted for it is right
  pub collected : AreCollected state.layout (shared_in state) state.threads
  -- no call is twice in a batch
  pub batches : (r : ℕ) (replica : Replica) → At state.replicas r replica → IsDistinct nat_eq (map (λ update. update.entry.call) replica.batch)
