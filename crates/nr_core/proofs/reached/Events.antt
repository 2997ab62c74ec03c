-- One event more.
use Rattle.std.proofs.Common.{◌≡◌, ℕ, ◌<◌, ◌⊎◌, inl, inr, List, [], ◌∷◌, ◌++◌, length, slice_get, Option, Some, ap, sym, ◌∙◌, subst, arith}
use Rattle.std.specs.Prelude.{slice_set}
use Rattle.std.proofs.lemmas.Bool.{cases_eq}
use Rattle.vs_types.specs.declared.log_entry.LogEntry.{LogEntry}
use Rattle.vs_types.specs.declared.requests.request.Query.TheVariants.{Update}
use Rattle.nr_trace.specs.Calls.{Invocation, made_by, Response, reply_in}
use Rattle.nr_trace.specs.declared.recordings.event.Event.{Event}
use Rattle.nr_core.specs.State.{State, Thread, with_thread}
use Rattle.nr_core.specs.declared.states.stage.Stage.TheVariants.{Taken}
use Rattle.nr_core.specs.inside.Reached.{request_made, HasOpen, IsUnanswered, open_in}
use Rattle.nr_core.specs.inside.Reached.{At, call_at, reply_at, RepliesTo, Behind, Shared, shared_in, FitsStage, IsRight, IsFresh, waiting_in, AreCalls}
use Rattle.nr_core.specs.inside.Reached.{IsReached}
use Rattle.nr_core.proofs.reached.Places.{each_set, at_front, at_last, at_end, at_other}
use Rattle.nr_core.proofs.reached.Growth.{Longer, Grows, then_parts, then_from, read_at, read_within, read_stays, read_stood, answer_stays}
use Rattle.nr_core.proofs.reached.Growth.{answer_stood, behind_stays, right_stays}
use Rattle.nr_core.proofs.reached.Growth.{stage_fits}
use Rattle.nr_core.proofs.reached.Changes.{collected_stays, nothing_grows, taken_keeps}

pub one_longer : (events : List Event) (event : Event) → Longer events (events ++ event ∷ [])
one_longer events event = record {
  stays = λ i x e. at_front events (event ∷ []) i x e;
  stood = λ i x l e. old i x l (at_last events event i x e);
} where
  old : (i : ℕ) (x : Event) → i < length events → At events i x ⊎ ((i ≡ length events) × (event ≡ x)) → At events i x
  old i x l (inl e) = e
  old i x l (inr h) = let k = h.0 in absurd (omega arith)

-- a call, or a reply, is an old one or the new event
pub read_last : {B : Type 0} (f : Event → Option B) (events : List Event) (event : Event) (i : ℕ) (y : B)
    → read_at f (events ++ event ∷ []) i ≡ Some y → (read_at f events i ≡ Some y) ⊎ ((i ≡ length events) × (f event ≡ Some y))
read_last {B} f events event i y e =
    let (x, at, is) = then_parts f (slice_get (events ++ event ∷ []) i) y e in
    by_side x is (at_last events event i x at) where
      by_side : (x : Event) → f x ≡ Some y → At events i x ⊎ ((i ≡ length events) × (event ≡ x))
          → (read_at f events i ≡ Some y) ⊎ ((i ≡ length events) × (f event ≡ Some y))
      by_side x is (inl at) = inl (then_from f (slice_get events i) x y at is)
      by_side x is (inr (l, same)) = inr (l, ap f same ∙ is)

pub answer_last : (events : List Event) (event : Event) (index call : ℕ) → RepliesTo (events ++ event ∷ []) index call
    → RepliesTo events index call ⊎ ((index ≡ length events) × (reply : Response) × (reply_in event ≡ Some reply) × (reply.call ≡ call))
answer_last events event index call (reply, e, f) = by_side (read_last reply_in events event index reply e) where
  by_side : (reply_at events index ≡ Some reply) ⊎ ((index ≡ length events) × (reply_in event ≡ Some reply))
      → RepliesTo events index call ⊎ ((index ≡ length events) × (reply : Response) × (reply_in event ≡ Some reply) × (reply.call ≡ call))
  by_side (inl g) = inl (reply, g, f)
  by_side (inr (l, g)) = inr (l, reply, g, f)

pub last_read : {B : Type 0} (f : Event → Option B) (events : List Event) (event : Event) (y : B) → f event ≡ Some y
    → read_at f (events ++ event ∷ []) (length events) ≡ Some y
last_read f events event y e = then_from f (slice_get (events ++ event ∷ []) (length events)) event y (at_end events event) e

-- what is asked where a thread's call begins or ends by the event
pub record AreNextCalls (events : List Event) (event : Event) (threads : List Thread) (t : ℕ) (next : Thread) : Type 0 where
  pub opened : (call : ℕ) → open_in next.stage ≡ Some call → IsUnanswered (events ++ event ∷ []) t call
  pub still_open : (u call : ℕ) → (u ≡ t → ⊥) → IsUnanswered events u call → IsUnanswered (events ++ event ∷ []) u call
  pub closed : (call : ℕ) → HasOpen threads t call → (index : ℕ) × RepliesTo (events ++ event ∷ []) index call
  pub begun : (made : Invocation) → made_by event ≡ Some made → HasOpen (slice_set threads t next) made.thread (length events)
  pub once : (first call : ℕ) (reply : Response) → RepliesTo events first call → reply_in event ≡ Some reply → reply.call ≡ call → ⊥
  pub in_turn : (earlier : ℕ) (first second : Invocation) → call_at events earlier ≡ Some first → made_by event ≡ Some second → first.thread ≡ second.thread
      → (index : ℕ) × RepliesTo events index earlier

pub calls_go_on : (events : List Event) (event : Event) (threads : List Thread) (t : ℕ) (next : Thread) → AreCalls events threads
    → AreNextCalls events event threads t next → AreCalls (events ++ event ∷ []) (slice_set threads t next)
calls_go_on events event threads t next calls new = record {
  opened = λ u other c there opened. each_set (λ v (x : Thread). open_in x.stage ≡ Some c → IsUnanswered later v c) threads t next
      (λ e. new.opened c e) (λ v x out e f. new.still_open v c out (calls.opened v x c e f)) u other there opened;
  ended = λ c first e. ended c first (read_last made_by events event c first e);
  once = λ first second c l h k. once first second c l h (answer_last events event second c k);
  in_turn = λ earlier latest first second l e f same. in_turn earlier latest first second l e same (read_last made_by events event latest second f);
} where
  later : List Event
  later = events ++ event ∷ []

  longer : Longer events later
  longer = one_longer events event

  less : {a b c : ℕ} → a < b → b < c → a < c
  less l m = omega arith

  ended : (c : ℕ) (first : Invocation) → (call_at events c ≡ Some first) ⊎ ((c ≡ length events) × (made_by event ≡ Some first))
      → HasOpen (slice_set threads t next) first.thread c ⊎ ((index : ℕ) × RepliesTo later index c)
  ended c first (inl e) = old (cases_eq first.thread t) (calls.ended c first e) where
    old : (first.thread ≡ t) ⊎ (first.thread ≡ t → ⊥) → HasOpen threads first.thread c ⊎ ((index : ℕ) × RepliesTo events index c)
        → HasOpen (slice_set threads t next) first.thread c ⊎ ((index : ℕ) × RepliesTo later index c)
    old side (inr (index, h)) = inr (index, answer_stays events later index c longer h)
    old (inl same) (inl h) = inr (new.closed c (subst (λ u. HasOpen threads u c) same h))
    old (inr out) (inl (other, there, opened)) = inl (other, at_other threads t first.thread other next out there, opened)
  ended c first (inr (l, e)) = inl (subst (HasOpen (slice_set threads t next) first.thread) (sym l) (new.begun first e))

  once : (first second c : ℕ) → first < second → RepliesTo later first c
      → RepliesTo events second c ⊎ ((second ≡ length events) × (r : Response) × (reply_in event ≡ Some r) × (r.call ≡ c)) → ⊥
  once first second c l h (inl k) = calls.once first second c l
      (answer_stood events later first c longer (less l (read_within reply_in events second k.0 k.1)) h) k
  once first second c l h (inr (at_last, r, e, f)) =
      new.once first c r (answer_stood events later first c longer (subst (λ n. first < n) at_last l) h) e f

  in_turn : (earlier latest : ℕ) (first second : Invocation) → earlier < latest → call_at later earlier ≡ Some first → first.thread ≡ second.thread
      → (call_at events latest ≡ Some second) ⊎ ((latest ≡ length events) × (made_by event ≡ Some second))
      → (index : ℕ) × (index < latest) × RepliesTo later index earlier
  in_turn earlier latest first second l e same (inl f) =
      let within = less l (read_within made_by events latest second f) in
      let (index, before, h) = calls.in_turn earlier latest first second l (read_stood made_by events later earlier first longer within e) f same in
      (index, before, answer_stays events later index earlier longer h)
  in_turn earlier latest first second l e same (inr (at_last, f)) =
      let old = read_stood made_by events later earlier first longer (subst (λ n. earlier < n) at_last l) e in
      let (index, h) = new.in_turn earlier first second old f same in (
        index,
        subst (λ n. index < n) (sym at_last) (read_within reply_in events index h.0 h.1),
        answer_stays events later index earlier longer h,
      )

pub event_recorded : (state : State) (t : ℕ) (thread next : Thread) (event : Event) → IsReached state → At state.threads t thread
    → ((call : ℕ) → thread.stage ≡ Taken call → ⊥)
    → AreCalls (state.events ++ event ∷ []) (slice_set state.threads t next)
    → ((reply : Response) → reply_in event ≡ Some reply → (made : Invocation) × (reply.call < length state.events)
    × (call_at state.events reply.call ≡ Some made)
    × IsRight state.layout (shared_in state) made reply.call reply.at reply.answer)
    → FitsStage state.layout (shared_in (record state { events = state.events ++ event ∷ [] })) t next.stage
    → ((call : ℕ) → waiting_in next.stage ≡ Some call → IsFresh state.log call)
    → IsReached (record (with_thread state t next) { events = state.events ++ event ∷ [] })
event_recorded state t thread next event reached at not_taken calls right fits fresh = record {
  calls = calls;
  replies = λ index reply e. each index reply (read_last reply_in state.events event index reply e);
  threads = each_set (λ u (x : Thread). FitsStage state.layout after u x.stage) state.threads t next fits
      (λ u x out e. stage_fits state.layout u x.stage grows (reached.threads u x e));
  waiting = λ u other call there is. each_set (λ v (x : Thread). waiting_in x.stage ≡ Some call → IsFresh state.log call) state.threads t next
      (λ e. fresh call e) (λ v x out e is. reached.waiting v x call e is) u other there is;
  entries = λ place entry e. entered place entry (reached.entries place entry e);
  distinct = reached.distinct;
  completed = reached.completed;
  replicas = reached.replicas;
  collected = λ r replica update there i. collected_stays grows (reached.collected r replica update there i)
      (taken_keeps state.threads t update.thread update.entry.call thread next at (λ _ f. absurd (not_taken update.entry.call f))) (λ h. h);
  batches = reached.batches;
} where
  later : List Event
  later = state.events ++ event ∷ []

  longer : Longer state.events later
  longer = one_longer state.events event

  after : Shared
  after = shared_in (record state { events = later })

  grows : Grows (shared_in state) after
  grows = let same = nothing_grows state reached in record {
    have = same.have;
    within = same.within;
    longer = longer;
    entry_stays = same.entry_stays;
    rises = same.rises;
    goes_on = same.goes_on;
  }

  each : (index : ℕ) (reply : Response) → (reply_at state.events index ≡ Some reply) ⊎ ((index ≡ length state.events) × (reply_in event ≡ Some reply))
      → (made : Invocation) × (reply.call < index) × (call_at later reply.call ≡ Some made)
      × IsRight state.layout after made reply.call reply.at reply.answer
  each index reply (inl e) =
      let (made, before, is, h) = reached.replies index reply e in
      (made, before, read_stays made_by state.events later reply.call made longer is, right_stays grows (read_within made_by state.events reply.call made is) h)
  each index reply (inr (l, e)) =
      let (made, before, is, h) = right reply e in
      (made, subst (λ n. reply.call < n) (sym l) before, read_stays made_by state.events later reply.call made longer is, right_stays grows before h)

  entered : (place : ℕ) (entry : LogEntry)
      → (made : Invocation) × (call_at state.events entry.call ≡ Some made) × (request_made made ≡ Update entry.op) × Behind state.events entry.call place
      → (made : Invocation) × (call_at later entry.call ≡ Some made) × (request_made made ≡ Update entry.op) × Behind later entry.call place
  entered place entry (made, is, asks, behind) = (
    made,
    read_stays made_by state.events later entry.call made longer is,
    asks,
    behind_stays state.events later entry.call place longer grows.have (omega (arith, read_within made_by state.events entry.call made is)) behind,
  )
