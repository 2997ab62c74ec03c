-- The twelve steps of the protocol: where each is enabled, and the state after it. A step that is not enabled has none.
use Rattle.std.specs.Prelude.{ℕ, ◌+◌, nat_lt, nat_le, ◌==◌, ◌&&◌, not, List, [], ◌∷◌, ◌++◌, length, map, filter, find, slice_get, Bool, true, false}
use Rattle.std.specs.Prelude.{Option, Some, None, is_none, option_and_then, if◌then◌else◌}
use Rattle.std.specs.List.{list_all}
use Rattle.vs_types.specs.Step as spaces
use Rattle.vs_types.specs.declared.limits.TheConstants.{LOG_PLACES, RING}
use Rattle.vs_types.specs.declared.log_entry.LogEntry.{LogEntry}
use Rattle.vs_types.specs.declared.requests.request.Query.{Query}
use Rattle.vs_types.specs.declared.requests.request.Query.TheVariants.{Update}
use Rattle.nr_trace.specs.Orders.{answer_in}
use Rattle.nr_trace.specs.declared.recordings.event.Event.TheVariants as events
use Rattle.nr_trace.specs.declared.recordings.event.Asked.TheVariants as askeds
use Rattle.nr_core.specs.State.{State, Thread, Replica, tail, home, has_applied_all, with_thread, with_replica}
use Rattle.nr_core.specs.declared.states.stage.Answered.{Answered}
use Rattle.nr_core.specs.declared.states.stage.Collected.{Collected}
use Rattle.nr_core.specs.declared.states.stage.Stage.{Stage}
use Rattle.nr_core.specs.declared.states.stage.Stage.TheVariants.{Idle, Called, Posted, Taken, Ready, Looked, HasRead}
use Rattle.nr_core.specs.declared.runs.step.Act.{Act}
use Rattle.nr_core.specs.declared.runs.step.Act.TheVariants.{Call, Post, Take, Collect, Append, Advance, Apply, Answer, Release, Look, Read, Reply}
use Rattle.nr_core.specs.declared.runs.step.Step.{Step}

-- enabled where the condition holds, and then this is the state after it
abbrev pub when : Bool → State → Option State
when condition state = if condition then Some state else None

-- what a step of thread t makes of the state, where there is such a thread
abbrev pub by_thread : State → ℕ → (Thread → Option State) → Option State
by_thread state t go = option_and_then go (slice_get state.threads t)

-- what a step makes of the state at this replica, if there is one
abbrev pub at_replica : State → ℕ → (Replica → Option State) → Option State
at_replica state r go = option_and_then go (slice_get state.replicas r)

-- if thread t holds the lock of a replica r
abbrev pub by_holder : State → ℕ → (Thread → ℕ → Replica → Option State) → Option State
by_holder state t go = by_thread state t (λ thread. option_and_then (λ r. at_replica state r (go thread r)) thread.holds)

-- the state with the next call of the thread recorded
abbrev pub with_call : State → ℕ → Thread → List Query → Stage → Option State
with_call state t thread (request ∷ left) Idle =
    let call = length state.events in
    Some (record (with_thread state t (record thread { script = left; stage = Called call request }))
    { events = state.events ++ events.Call (home state t) t (askeds.Request request) ∷ [] })
with_call state t thread script stage = None

-- Call: if no call is open and the script has a request left, it is recorded
abbrev pub call : State → ℕ → Option State
call state t = by_thread state t (λ thread. with_call state t thread thread.script thread.stage)

-- the state with the thread's update in its slot
abbrev pub with_post : State → ℕ → Thread → Stage → Option State
with_post state t thread (Called call (Update action)) = Some (with_thread state t (record thread { stage = Posted call action }))
with_post state t thread stage = None

-- Post: if the open call is an update that is not yet posted, it is in the slot
abbrev pub post : State → ℕ → Option State
post state t = by_thread state t (λ thread. with_post state t thread thread.stage)

-- Take r: where the thread holds no lock and r's is free, it holds r's
abbrev pub take_lock : State → ℕ → ℕ → Option State
take_lock state t r =
    by_thread state t (λ thread. at_replica state r (λ replica.
    when (is_none thread.holds && is_none replica.holder)
    (with_replica (with_thread state t (record thread { holds = Some r })) r (record replica { holder = Some t }))))

-- whether the batch of a replica has room for an update: it has fewer than 16, and isn't placed
abbrev pub has_place : Replica → Bool
has_place replica = nat_lt (length replica.batch) RING && not replica.placed

-- the batch with an update more
abbrev pub with_update : Replica → Collected → Replica
with_update replica update = record replica { batch = replica.batch ++ update ∷ [] }

-- the state with the posted update of a thread in the batch
abbrev pub with_collected : State → ℕ → Replica → ℕ → Thread → Stage → Option State
with_collected state r replica s other (Posted call action) =
    let update : Collected = record { thread = s; entry = record { call = call; op = action }; noted = None } in
    when ((home state s == r) && has_place replica)
    (with_replica (with_thread state s (record other { stage = Taken call })) r (with_update replica update))
with_collected state r replica s other stage = None

-- Collect s: if the update of s is posted at the replica, and the batch has room, it is the last of the batch
abbrev pub collect : State → ℕ → ℕ → Option State
collect state t s = by_holder state t (λ thread r replica. by_thread state s (λ other. with_collected state r replica s other other.stage))

-- the log has room for so many entries more, and no replica would have more than 16 to fetch
abbrev pub has_room : State → ℕ → Bool
has_room state n = nat_le (tail state + n) LOG_PLACES && list_all (λ other. nat_le (tail state + n) (other.local + RING)) state.replicas

-- the batch of a replica may be appended: it isn't empty nor placed, and the log has room for it
abbrev pub may_append : State → Replica → Bool
may_append state replica = nat_lt 0 (length replica.batch) && not replica.placed && has_room state (length replica.batch)

-- Append: where the batch is not empty nor placed, and there is room, it is at the log's end
abbrev pub append : State → ℕ → Option State
append state t =
    by_holder state t (λ thread r replica.
    when (may_append state replica)
    (with_replica (record state { log = state.log ++ map (λ update. update.entry) replica.batch }) r (record replica { placed = true })))

-- Advance: where all that was fetched is applied and the log has more, all of it is fetched: the local tail and the completed tail
-- are the tail
abbrev pub advance : State → ℕ → Option State
advance state t =
    by_holder state t (λ thread r replica.
    when (has_applied_all replica && nat_lt replica.local (tail state))
    (with_replica (record state { completed = tail state }) r (record replica { local = tail state })))

-- the answer is noted for the update of its call
abbrev pub note : Answered → Collected → Collected
note answered update = if update.entry.call == answered.call then record update { noted = Some answered } else update

-- the replica after the entry at the place that it has come to
abbrev pub with_entry : State → Replica → LogEntry → Replica
with_entry state replica entry =
    let next = spaces.step state.layout.depth state.layout.tables replica.space entry.op in
    record replica {
      batch = map (note (record { call = entry.call; at = replica.applied; answer = next.answer })) replica.batch;
      applied = replica.applied + 1;
      space = next.space;
    }

-- Apply: where a fetched entry is left, the first is applied, and its answer noted in the batch
abbrev pub apply : State → ℕ → Option State
apply state t =
    by_holder state t (λ thread r replica. option_and_then (λ entry.
    when (nat_lt replica.applied replica.local) (with_replica state r (with_entry state replica entry)))
    (slice_get state.log replica.applied))

-- whether an update is left in a batch
abbrev pub is_some_left : List Collected → Bool
is_some_left [] = false
is_some_left (update ∷ batch) = true

-- the batch without the update of a thread; an empty batch isn't placed
abbrev pub without : ℕ → Replica → Replica
without s replica =
    let left = filter (λ update. not (update.thread == s)) replica.batch in
    record replica { batch = left; placed = replica.placed && is_some_left left }

-- the answer that is noted for the update of s
abbrev pub noted_for : ℕ → Replica → Option Answered
noted_for s replica = option_and_then (λ update. update.noted) (find (λ update. update.thread == s) replica.batch)

-- the state in which the answer is in the slot of s, and its update has left the batch
abbrev pub with_ready : State → ℕ → Replica → ℕ → Thread → Answered → State
with_ready state r replica s other answered = with_replica (with_thread state s (record other { stage = Ready answered })) r (without s replica)

-- the same, if the update of s is taken
abbrev pub with_answer : State → ℕ → Replica → ℕ → Thread → Answered → Stage → Option State
with_answer state r replica s other answered (Taken call) = Some (with_ready state r replica s other answered)
with_answer state r replica s other answered stage = None

-- Answer s: if an answer is noted for s, whose update is taken, it is in the slot of s, and the update leaves the batch. In every state
-- that steps reach, an answer is noted only for updates that are taken. So the step is the same as one that asks for the note alone (the
-- law `noted_answers_are_of_taken_updates`)
abbrev pub answer : State → ℕ → ℕ → Option State
answer state t s =
    by_holder state t (λ thread r replica. by_thread state s (λ other.
    option_and_then (λ answered. with_answer state r replica s other answered other.stage) (noted_for s replica)))

-- Release: where all that was fetched is applied, the lock is free
abbrev pub release : State → ℕ → Option State
release state t =
    by_holder state t (λ thread r replica.
    when (has_applied_all replica)
    (with_replica (with_thread state t (record thread { holds = None })) r (record replica { holder = None })))

-- the state in which the thread has noted the completed tail
abbrev pub with_look : State → ℕ → Thread → Stage → Option State
with_look state t thread (Called call (Update action)) = None
with_look state t thread (Called call request) = Some (with_thread state t (record thread { stage = Looked call request state.completed }))
with_look state t thread stage = None

-- Look: if the open call is a read that has not yet looked, it notes the completed tail
abbrev pub look : State → ℕ → Option State
look state t = by_thread state t (λ thread. with_look state t thread thread.stage)

-- the state in which the thread has its answer
abbrev pub with_read : State → ℕ → Thread → Replica → Stage → Option State
with_read state t thread replica (Looked call request completed) =
    let read : Answered = record { call = call; at = replica.applied; answer = answer_in state.layout replica.space request } in
    when (is_none replica.holder && nat_le completed replica.applied) (with_thread state t (record thread { stage = HasRead read }))
with_read state t thread replica stage = None

-- Read: if the thread has looked, its replica's lock is free, and as much is applied there as it noted, it has its answer
abbrev pub read : State → ℕ → Option State
read state t = by_thread state t (λ thread. at_replica state (home state t) (λ replica. with_read state t thread replica thread.stage))

-- the state with the reply recorded
abbrev pub with_reply : State → ℕ → Thread → Answered → Option State
with_reply state t thread answered =
    Some (record (with_thread state t (record thread { stage = Idle }))
    { events = state.events ++ events.Reply answered.call answered.at answered.answer ∷ [] })

-- the state with the reply, if the thread has an answer
abbrev pub reply_at : State → ℕ → Thread → Stage → Option State
reply_at state t thread (Ready answered) = with_reply state t thread answered
reply_at state t thread (HasRead answered) = with_reply state t thread answered
reply_at state t thread stage = None

-- Reply: if the answer is in the slot, or the thread has read, the reply is recorded, and no call is open
abbrev pub reply : State → ℕ → Option State
reply state t = by_thread state t (λ thread. reply_at state t thread thread.stage)

-- what an act of a thread makes of the state, if it is enabled
abbrev pub act : State → ℕ → Act → Option State
act state t Call = call state t
act state t Post = post state t
act state t (Take r) = take_lock state t r
act state t (Collect s) = collect state t s
act state t Append = append state t
act state t Advance = advance state t
act state t Apply = apply state t
act state t (Answer s) = answer state t s
act state t Release = release state t
act state t Look = look state t
act state t Read = read state t
act state t Reply = reply state t

-- the state after a step that is enabled
abbrev pub after_step : State → Step → Option State
after_step state step = act state step.thread step.act
