-- A reached state where one thread, one replica, the completed tail or the log changes.
use Rattle.std.proofs.Common.{◌≡◌, ℕ, ◌+◌, ◌<◌, ◌≤◌, ◌⊎◌, inl, inr, Bool, false, nat_eq, List, ◌++◌, length, map, slice_get, Some, refl, ap, sym, ◌∙◌, subst}
use Rattle.std.proofs.Common.{arith}
use Rattle.std.specs.Prelude.{slice_set}
use Rattle.std.specs.List.{IsDistinct}
use Rattle.std.proofs.lemmas.Bool.{cases_eq}
use Rattle.std.proofs.lemmas.List.{length-append, map-append}
use Rattle.std.proofs.lemmas.Option.{same_Some}
use Rattle.vs_types.specs.Config.{Layout}
use Rattle.vs_types.specs.declared.log_entry.LogEntry.{LogEntry}
use Rattle.vs_types.specs.declared.requests.request.Query.TheVariants.{Update}
use Rattle.nr_trace.specs.Calls.{made_by, Invocation}
use Rattle.nr_trace.specs.declared.recordings.event.Event.{Event}
use Rattle.nr_trace.proofs.LawsOfLists.{In, in_either, distinct_append}
use Rattle.nr_core.specs.State.{State, Thread, Replica, with_thread, with_replica}
use Rattle.nr_core.specs.declared.states.stage.Collected.{Collected}
use Rattle.nr_core.specs.declared.states.stage.Stage.TheVariants.{Taken}
use Rattle.nr_core.specs.Laws.{IsTaken}
use Rattle.nr_core.specs.inside.Reached.{request_made, At, call_at, RepliesTo, Behind, calls_of, Shared, shared_in, FitsStage, open_in, waiting_in}
use Rattle.nr_core.specs.inside.Reached.{IsUnanswered, HasOpen, IsFresh, IsCollected, IsReplicaOf, AreCalls, AreCollected, IsReached}
use Rattle.nr_core.proofs.reached.Places.{each_set, at_set, at_other, at_front, at_either}
use Rattle.nr_core.proofs.reached.Growth.{Longer, Grows, read_within, read_stays, replies_have_calls, behind_completed, behind_more, space_stays}
use Rattle.nr_core.proofs.reached.Growth.{right_stays}
use Rattle.nr_core.proofs.reached.Growth.{stage_fits, replies_stay}

pub same_events : (events : List Event) → Longer events events
same_events events = record { stays = λ i event e. e; stood = λ i event l e. e }

-- ---- one thread

-- what holds of some thread at an index still does
still_some : (P : Thread → Type 0) (threads : List Thread) (t u : ℕ) (thread next : Thread) → At threads t thread → (u ≡ t → P thread → P next)
    → (x : Thread) × At threads u x × P x → (x : Thread) × At (slice_set threads t next) u x × P x
still_some P threads t u thread next at same (other, there, is) = by_case (cases_eq u t) where
  by_case : (u ≡ t) ⊎ (u ≡ t → ⊥) → (x : Thread) × At (slice_set threads t next) u x × P x
  by_case (inl e) =
      let one : other ≡ thread = same_Some other thread (sym there ∙ ap (slice_get threads) e ∙ at) in (
        next,
        subst (λ (v : ℕ). At (slice_set threads t next) v next) (sym e) (at_set threads t thread next at),
        same e (subst P one is),
      )
  by_case (inr out) = (other, at_other threads t u other next out there, is)

pub calls_keep : (events : List Event) (threads : List Thread) (t : ℕ) (thread next : Thread) → At threads t thread
    → open_in next.stage ≡ open_in thread.stage
    → AreCalls events threads → AreCalls events (slice_set threads t next)
calls_keep events threads t thread next at same calls = record {
  opened = λ u other call there is. each_set (λ v (x : Thread). open_in x.stage ≡ Some call → IsUnanswered events v call) threads t next
      (λ e. calls.opened t thread call at (sym same ∙ e)) (λ v x out e is. calls.opened v x call e is) u other there is;
  ended = λ call made e. still call made (calls.ended call made e);
  once = calls.once;
  in_turn = calls.in_turn;
} where
  still : (call : ℕ) (made : Invocation) → HasOpen threads made.thread call ⊎ ((index : ℕ) × RepliesTo events index call)
      → HasOpen (slice_set threads t next) made.thread call ⊎ ((index : ℕ) × RepliesTo events index call)
  still call made (inl h) =
      inl (still_some (λ (x : Thread). open_in x.stage ≡ Some call) threads t made.thread thread next at (λ _ is. same ∙ is) h)
  still call made (inr h) = inr h

pub taken_keeps : (threads : List Thread) (t u call : ℕ) (thread next : Thread) → At threads t thread
    → (u ≡ t → thread.stage ≡ Taken call → next.stage ≡ Taken call)
    → IsTaken threads u call → IsTaken (slice_set threads t next) u call
taken_keeps threads t u call thread next at same = still_some (λ (x : Thread). x.stage ≡ Taken call) threads t u thread next at same

pub collected_stays : {layout : Layout} {before after : Shared} {threads threads' : List Thread} {r : ℕ} {placed placed' : Bool} {update : Collected}
    → Grows before after → IsCollected layout before threads r placed update
    → (IsTaken threads update.thread update.entry.call → IsTaken threads' update.thread update.entry.call)
    → ((placed ≡ false → IsFresh before.log update.entry.call) → placed' ≡ false → IsFresh after.log update.entry.call)
    → IsCollected layout after threads' r placed' update
collected_stays {before = before} {after = after} {update = update} grows h taken fresh = record {
  home = h.home;
  taken = taken h.taken;
  asks = read_stays made_by before.events after.events update.entry.call _ grows.longer h.asks;
  noted = λ a e. let (is, right) = h.noted a e in (
    is,
    right_stays grows (subst (λ (n : ℕ). n < length before.events) (sym is) (read_within made_by before.events update.entry.call _ h.asks)) right,
  );
  fresh = fresh h.fresh;
}

-- nothing goes on but one thread
pub nothing_grows : (state : State) → IsReached state → Grows (shared_in state) (shared_in state)
nothing_grows state reached = record {
  have = replies_have_calls state.layout (shared_in state) reached.replies;
  within = reached.completed;
  longer = same_events state.events;
  entry_stays = λ i entry e. e;
  rises = omega arith;
  goes_on = λ r later e. (later, e, omega arith);
}

-- items stay collected where a thread's call stays taken
pub collected_keep : (state : State) (t : ℕ) (thread next : Thread) → IsReached state → At state.threads t thread
    → ((call : ℕ) → thread.stage ≡ Taken call → next.stage ≡ Taken call)
    → AreCollected state.layout (shared_in state) (slice_set state.threads t next)
collected_keep state t thread next reached at same r replica update there i =
    collected_stays (nothing_grows state reached) (reached.collected r replica update there i)
    (taken_keeps state.threads t update.thread update.entry.call thread next at (λ _. same update.entry.call)) (λ h. h)

pub thread_changes : (state : State) (t : ℕ) (thread next : Thread) → IsReached state → At state.threads t thread → open_in next.stage ≡ open_in thread.stage
    → FitsStage state.layout (shared_in state) t next.stage
    → ((call : ℕ) → waiting_in next.stage ≡ Some call → waiting_in thread.stage ≡ Some call)
    → AreCollected state.layout (shared_in state) (slice_set state.threads t next)
    → IsReached (with_thread state t next)
thread_changes state t thread next reached at same fits waits collected = record {
  calls = calls_keep state.events state.threads t thread next at same reached.calls;
  replies = reached.replies;
  threads = each_set (λ u (x : Thread). FitsStage state.layout (shared_in state) u x.stage) state.threads t next fits
      (λ u x out e. reached.threads u x e);
  waiting = λ u other call there is. each_set (λ v (x : Thread). waiting_in x.stage ≡ Some call → IsFresh state.log call) state.threads t next
      (λ e. reached.waiting t thread call at (waits call e)) (λ v x out e is. reached.waiting v x call e is) u other there is;
  entries = reached.entries;
  distinct = reached.distinct;
  completed = reached.completed;
  replicas = reached.replicas;
  collected = collected;
  batches = reached.batches;
}

-- ---- one replica

pub replica_grows : (state : State) (r : ℕ) (replica next : Replica) → IsReached state → At state.replicas r replica → replica.applied ≤ next.applied
    → Grows (shared_in state) (shared_in (with_replica state r next))
replica_grows state r replica next reached at more = let same = nothing_grows state reached in record {
  have = same.have;
  within = same.within;
  longer = same.longer;
  entry_stays = same.entry_stays;
  rises = same.rises;
  goes_on = each_set (λ q (x : Replica). (first : Replica) × At state.replicas q first × (first.applied ≤ x.applied)) state.replicas r next
      (replica, at, more) (λ q x out e. (x, e, omega arith));
}

-- an item of this replica's batch that is in its batch after the change too
pub still_collected : (state : State) (r : ℕ) (replica next : Replica) (update : Collected) → IsReached state → At state.replicas r replica
    → replica.applied ≤ next.applied
    → ((replica.placed ≡ false → IsFresh state.log update.entry.call) → next.placed ≡ false → IsFresh state.log update.entry.call)
    → In update replica.batch
    → IsCollected state.layout (shared_in (with_replica state r next)) state.threads r next.placed update
still_collected state r replica next update reached at more fresh i =
    collected_stays (replica_grows state r replica next reached at more) (reached.collected r replica update at i) (λ h. h) fresh

pub replica_changes : (state : State) (r : ℕ) (replica next : Replica) → IsReached state → At state.replicas r replica → replica.applied ≤ next.applied
    → IsReplicaOf state.layout state.log state.completed next
    → ((update : Collected) → In update next.batch
    → IsCollected state.layout (shared_in (with_replica state r next)) state.threads r next.placed update)
    → IsDistinct nat_eq (map (λ update. update.entry.call) next.batch)
    → IsReached (with_replica state r next)
replica_changes state r replica next reached at more is collected distinct = record {
  calls = reached.calls;
  replies = replies_stay state.layout refl grows reached.replies;
  threads = λ t thread e. stage_fits state.layout t thread.stage grows (reached.threads t thread e);
  waiting = reached.waiting;
  entries = reached.entries;
  distinct = reached.distinct;
  completed = reached.completed;
  replicas = each_set (λ q (x : Replica). IsReplicaOf state.layout state.log state.completed x) state.replicas r next is (λ q x out e. reached.replicas q x e);
  collected = λ q x update e i. each_set (λ v (y : Replica). In update y.batch
      → IsCollected state.layout (shared_in (with_replica state r next)) state.threads v y.placed update)
      state.replicas r next (collected update) (λ v y out f j. others v y update f j) q x e i;
  batches = each_set (λ q (x : Replica). IsDistinct nat_eq (map (λ update. update.entry.call) x.batch)) state.replicas r next distinct
      (λ q x out e. reached.batches q x e);
} where
  grows : Grows (shared_in state) (shared_in (with_replica state r next))
  grows = replica_grows state r replica next reached at more

  others : (q : ℕ) (x : Replica) (update : Collected) → At state.replicas q x → In update x.batch
      → IsCollected state.layout (shared_in (with_replica state r next)) state.threads q x.placed update
  others q x update e i = collected_stays grows (reached.collected q x update e i) (λ h. h) (λ h. h)

-- ---- the completed tail

pub completed_rises : (state : State) (n : ℕ) → IsReached state → state.completed ≤ n → n ≤ length state.log → IsReached (record state { completed = n })
completed_rises state n reached more l = record {
  calls = reached.calls;
  replies = replies_stay state.layout refl grows reached.replies;
  threads = λ t thread e. stage_fits state.layout t thread.stage grows (reached.threads t thread e);
  waiting = reached.waiting;
  entries = reached.entries;
  distinct = reached.distinct;
  completed = l;
  replicas = λ r replica e.
      let h = reached.replicas r replica e in
      record { fetched = h.fetched; known = omega (arith, h.known, more); space = h.space };
  collected = λ r replica update e i. collected_stays grows (reached.collected r replica update e i) (λ h. h) (λ h. h);
  batches = reached.batches;
} where
  grows : Grows (shared_in state) (shared_in (record state { completed = n }))
  grows = let same = nothing_grows state reached in record {
    have = same.have;
    within = same.within;
    longer = same.longer;
    entry_stays = same.entry_stays;
    rises = more;
    goes_on = same.goes_on;
  }

-- ---- the log

pub record AreNew (state : State) (entries : List LogEntry) : Type 0 where
  pub asked : (entry : LogEntry) → In entry entries
      → (made : Invocation) × (call_at state.events entry.call ≡ Some made) × (request_made made ≡ Update entry.op)
  pub once : IsDistinct nat_eq (calls_of entries)
  pub fresh : (call : ℕ) → In call (calls_of entries) → IsFresh state.log call
  pub not_waiting : (t : ℕ) (thread : Thread) (call : ℕ) → At state.threads t thread → waiting_in thread.stage ≡ Some call → In call (calls_of entries) → ⊥
  pub in_no_other : (r : ℕ) (replica : Replica) (update : Collected) → At state.replicas r replica → In update replica.batch → replica.placed ≡ false
      → In update.entry.call (calls_of entries) → ⊥

calls_of_both : (log entries : List LogEntry) → calls_of (log ++ entries) ≡ calls_of log ++ calls_of entries
calls_of_both log entries = map-append (λ (entry : LogEntry). entry.call) log entries

fresh_in_both : (log entries : List LogEntry) (call : ℕ) → IsFresh log call → (In call (calls_of entries) → ⊥) → IsFresh (log ++ entries) call
fresh_in_both log entries call h k i = nowhere (in_either call (calls_of log) (calls_of entries) (subst (In call) (calls_of_both log entries) i)) where
  nowhere : In call (calls_of log) ⊎ In call (calls_of entries) → ⊥
  nowhere (inl j) = h j
  nowhere (inr j) = k j

pub log_grows : (state : State) (entries : List LogEntry) → IsReached state → AreNew state entries
    → IsReached (record state { log = state.log ++ entries })
log_grows state entries reached new = record {
  calls = reached.calls;
  replies = replies_stay state.layout refl grows reached.replies;
  threads = λ t thread e. stage_fits state.layout t thread.stage grows (reached.threads t thread e);
  waiting = λ t thread call e is. fresh_in_both state.log entries call (reached.waiting t thread call e is) (new.not_waiting t thread call e is);
  entries = λ place entry e. each place entry (at_either state.log entries place entry e);
  distinct = subst (IsDistinct nat_eq) (sym (calls_of_both state.log entries))
      (distinct_append (calls_of state.log) (calls_of entries) reached.distinct new.once (λ call i j. new.fresh call j i));
  completed = omega (arith, reached.completed, length-append state.log entries);
  replicas = λ r replica e.
      let h = reached.replicas r replica e in
      record {
        fetched = h.fetched;
        known = h.known;
        space = h.space ∙ space_stays state.layout state.log (state.log ++ entries) replica.applied (at_front state.log entries)
            (omega (arith, h.fetched, h.known, reached.completed));
      };
  collected = λ r replica update e i. collected_stays grows (reached.collected r replica update e i) (λ h. h)
      (λ h f. fresh_in_both state.log entries update.entry.call (h f) (new.in_no_other r replica update e i f));
  batches = reached.batches;
} where
  grows : Grows (shared_in state) (shared_in (record state { log = state.log ++ entries }))
  grows = let same = nothing_grows state reached in record {
    have = same.have;
    within = same.within;
    longer = same.longer;
    entry_stays = at_front state.log entries;
    rises = same.rises;
    goes_on = same.goes_on;
  }

  each : (place : ℕ) (entry : LogEntry) → At state.log place entry ⊎ ((length state.log ≤ place) × In entry entries)
      → (made : Invocation) × (call_at state.events entry.call ≡ Some made) × (request_made made ≡ Update entry.op) × Behind state.events entry.call place
  each place entry (inl e) = reached.entries place entry e
  each place entry (inr (l, i)) =
      let (made, e, asks) = new.asked entry i in (
        made,
        e,
        asks,
        behind_more state.events entry.call state.completed place (omega (arith, reached.completed, l))
            (behind_completed state.layout (shared_in state) entry.call reached.replies),
      )
