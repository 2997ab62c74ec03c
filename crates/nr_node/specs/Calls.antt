-- What the calls of a node answer.
use Rattle.std.specs.Prelude.{◌≡◌, ◌≢◌, ℕ, ◌+◌, ◌≤◌, List, [], ◌∷◌, All, Option, Some, None, length, map, slice_get}
use Rattle.vs_types.specs.declared.requests.answer.Answer.{Answer}
use Rattle.vs_types.specs.declared.addresses.depth.Depth.{Depth}
use Rattle.vs_types.specs.declared.log_entry.LogEntry.{LogEntry}
use Rattle.nr_ring.specs.LogHistory.{Log, tail, log_after}
use Rattle.nr_ring.specs.Calls.{HasLooked, HasTaken}
use Rattle.nr_ring.specs.Entries.{HasAppended}
use Rattle.nr_ring.specs.declared.ring.view.View.{View}
use Rattle.nr_slots.specs.Updates.{Answered, Waiting}
use Rattle.nr_node.specs.Spaces.{answer_at}
use Rattle.nr_node.specs.Node.{NodeState, StandFrom, log_of}

-- the entry that a call asks for
abbrev pub entry_of : Waiting → LogEntry
entry_of waiting = record { call = waiting.call; op = waiting.op }

-- the entries that a batch asks for
abbrev pub entries_of : List Waiting → List LogEntry
entries_of batch = map entry_of batch

-- a call that is at a place, with what it is answered there
abbrev pub answered : Depth → ℕ → List LogEntry → ℕ → Waiting → Answered
answered depth tables entries place waiting = record {
  thread = waiting.thread;
  call = waiting.call;
  op = waiting.op;
  place = place;
  answer = answer_at depth tables entries place waiting.op;
}

-- calls that are one after another from a place on
abbrev pub answered_from : Depth → ℕ → List LogEntry → ℕ → List Waiting → List Answered
answered_from depth tables entries place [] = []
answered_from depth tables entries place (waiting ∷ batch) = answered depth tables entries place waiting ∷ answered_from depth tables entries (place + 1) batch

-- the answers of a batch, where it has places
abbrev pub answers_of : Depth → ℕ → List LogEntry → Option ℕ → List Waiting → List Answered
answers_of depth tables entries None batch = []
answers_of depth tables entries (Some first) batch = answered_from depth tables entries first batch

-- the calls that are left when those with places are answered
abbrev pub left_of : Option ℕ → List Waiting → List Waiting
left_of None batch = batch
left_of (Some first) batch = []

-- the batch lies among the entries from one place up to another, and is in the log there
pub record LiesWithin (log : Log) (from to first : ℕ) (batch : List Waiting) : Type 0 where
  pub above : from ≤ first
  pub below : first + length batch ≤ to
  pub stand : StandFrom log.entries first batch

-- the node looked, and then took all entries that there were. So many of them it had not applied before, and has then applied. A batch that
-- has places lies among these, and nothing of it is left
pub record HasCaughtUp (depth : Depth) (replicas : ℕ) (before : NodeState) (count : ℕ) (after : NodeState) : Type 0 where
  pub seen_before : View
  pub looked : HasLooked depth replicas before.known.view seen_before
  pub taken : HasTaken replicas seen_before (tail (log_after replicas seen_before.seen)) after.known.view
  pub risen : after.applied ≡ before.applied + count
  pub all : after.applied ≡ tail (log_of replicas after)
  pub fresh : tail (log_of replicas before) ≤ after.applied
  pub held : (first : ℕ) → before.first ≡ Some first
      → LiesWithin (log_of replicas after) before.applied after.applied first before.batch
  pub left : after ≡ record before { known = after.known; applied = after.applied; batch = left_of before.first before.batch; first = None }

-- the node looked, and has then applied all entries that there are. It made no event, so its replica's local tail is as it was
pub record HasFollowed (depth : Depth) (replicas : ℕ) (before after : NodeState) : Type 0 where
  pub looked : HasLooked depth replicas before.known.view after.known.view
  pub all : after.applied ≡ tail (log_of replicas after)
  pub fresh : tail (log_of replicas before) ≤ after.applied
  pub left : after ≡ record before { known = after.known; applied = after.applied }

-- another pass's event came, and the node has only looked: what it has applied and holds is as before
pub record HasStayed (depth : Depth) (replicas : ℕ) (before after : NodeState) : Type 0 where
  pub looked : HasLooked depth replicas before.known.view after.known.view
  pub same : after ≡ record before { known = after.known }

-- the node put its batch into the log, from a place on, and then caught up
pub record HasPutAndCaughtUp (depth : Depth) (replicas : ℕ) (before after : NodeState) : Type 0 where
  pub between : NodeState
  pub first : ℕ
  pub count : ℕ
  pub appended : HasAppended depth replicas before.known.view (entries_of before.batch) first between.known.view
  pub placed : between ≡ record before { known = between.known; first = Some first }
  pub caught_up : HasCaughtUp depth replicas between count after

-- an entry is at a place, and the answer is its operation's there
pub record IsAnsweredIn (depth : Depth) (tables : ℕ) (entries : List LogEntry) (entry : LogEntry) (place : ℕ) (answer : Answer) : Type 0 where
  pub stands : slice_get entries place ≡ Some entry
  pub answered : answer ≡ answer_at depth tables entries place entry.op

-- an update of a batch that has its places from this one on is at this place: it is this thread's, and asks for this entry
pub record IsOwnPlace (thread : ℕ) (entry : LogEntry) (batch : List Waiting) (first place : ℕ) : Type 0 where
  pub waiting : Waiting
  pub i : ℕ
  pub there : slice_get batch i ≡ Some waiting
  pub its : waiting.thread ≡ thread
  pub asks : entry_of waiting ≡ entry
  pub at : place ≡ first + i

-- no update of a batch is this thread's and asks for this entry
abbrev pub LacksUpdate : ℕ → LogEntry → List Waiting → Type 0
LacksUpdate thread entry batch = All (λ waiting. waiting.thread ≡ thread → entry_of waiting ≢ entry) batch
