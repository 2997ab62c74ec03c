-- Call.
use Rattle.std.proofs.Common.{◌≡◌, ℕ, ◌⊎◌, inl, inr, List, [], ◌∷◌, ◌++◌, length, Some, refl, ap, sym, ◌∙◌, subst, arith}
use Rattle.std.specs.Prelude.{slice_set}
use Rattle.std.proofs.lemmas.Option.{same_Some, none-some}
use Rattle.vs_types.specs.declared.log_entry.LogEntry.{LogEntry}
use Rattle.vs_types.specs.declared.requests.request.Query.{Query}
use Rattle.nr_trace.specs.Calls.{Invocation, made_by, Response, reply_in}
use Rattle.nr_trace.specs.declared.recordings.event.Event.{Event}
use Rattle.nr_trace.specs.declared.recordings.event.Event.TheVariants as events
use Rattle.nr_trace.specs.declared.recordings.event.Asked.TheVariants as askeds
use Rattle.nr_trace.proofs.LawsOfLists.{In, in_map}
use Rattle.nr_core.specs.State.{State, Thread, home, with_thread}
use Rattle.nr_core.specs.declared.states.stage.Stage.TheVariants.{Idle, Called}
use Rattle.nr_core.specs.inside.Reached.{At, RepliesTo, made_of, open_in, IsUnanswered, HasOpen, IsFresh, AreCalls, IsReached}
use Rattle.nr_core.proofs.reached.Places.{at_set, at_in}
use Rattle.nr_core.proofs.reached.Growth.{Longer, read_within, read_stays}
use Rattle.nr_core.proofs.reached.Events.{one_longer, answer_last, last_read, calls_go_on, event_recorded}

pub called : (state : State) (t : ℕ) (thread : Thread) (request : Query) (left : List Query) → IsReached state → At state.threads t thread
    → thread.stage ≡ Idle
    → IsReached (record (with_thread state t (record thread { script = left; stage = Called (length state.events) request }))
    { events = state.events ++ events.Call (home state t) t (askeds.Request request) ∷ [] })
called state t thread request left reached at is =
    event_recorded state t thread next event reached at (λ c e. cc) calls (λ reply e. absurd (none-some reply e))
    (last_read made_by state.events event made refl) (λ c e. subst (IsFresh state.log) (same_Some (length state.events) c e) fresh) where
      next : Thread
      next = record thread { script = left; stage = Called (length state.events) request }

      event : Event
      event = events.Call (home state t) t (askeds.Request request)

      made : Invocation
      made = made_of state.layout t request

      later : List Event
      later = state.events ++ event ∷ []

      longer : Longer state.events later
      longer = one_longer state.events event

      fresh : IsFresh state.log (length state.events)
      fresh i = nowhere (in_map (λ (entry : LogEntry). entry.call) state.log (length state.events) i) where
        nowhere : (entry : LogEntry) × In entry state.log × (entry.call ≡ length state.events) → ⊥
        nowhere (entry, j, e) =
            let (place, there) = at_in state.log entry j in
            let (first, is_made, asks, behind) = reached.entries place entry there in
            let l = read_within made_by state.events entry.call first is_made in
            absurd (omega arith)

      old_answer : (index c : ℕ) → RepliesTo later index c → RepliesTo state.events index c
      old_answer index c h = by_side (answer_last state.events event index c h) where
        by_side : RepliesTo state.events index c
            ⊎ ((index ≡ length state.events) × (reply : Response) × (reply_in event ≡ Some reply) × (reply.call ≡ c)) → RepliesTo state.events index c
        by_side (inl k) = k
        by_side (inr (l, reply, e, f)) = absurd (none-some reply e)

      not_yet : (index : ℕ) → RepliesTo state.events index (length state.events) → ⊥
      not_yet index (reply, e, f) =
          let (first, before, is_made, right) = reached.replies index reply e in
          let l = read_within made_by state.events reply.call first is_made in
          absurd (omega arith)

      idle : (c : ℕ) → HasOpen state.threads t c → ⊥
      idle c (other, there, opened) =
          let one : other ≡ thread = same_Some other thread (sym there ∙ at) in
          none-some c (sym (ap open_in (ap (λ (x : Thread). x.stage) one ∙ is)) ∙ opened)

      still_open : (u c : ℕ) → IsUnanswered state.events u c → IsUnanswered later u c
      still_open u c (first, is_made, of_u, no_reply) = (
        first,
        read_stays made_by state.events later c first longer is_made,
        of_u,
        λ index h. no_reply index (old_answer index c h),
      )

      replied : (earlier : ℕ) (first : Invocation) → first.thread ≡ t
          → HasOpen state.threads first.thread earlier ⊎ ((index : ℕ) × RepliesTo state.events index earlier)
          → (index : ℕ) × RepliesTo state.events index earlier
      replied earlier first of_t (inl h) = absurd (idle earlier (subst (λ u. HasOpen state.threads u earlier) of_t h))
      replied earlier first of_t (inr h) = h

      of_t : (first : Invocation) → made_by event ≡ Some first → t ≡ first.thread
      of_t first e = ap (λ (m : Invocation). m.thread) (same_Some made first e)

      calls : AreCalls later (slice_set state.threads t next)
      calls = calls_go_on state.events event state.threads t next reached.calls (record {
        opened = λ c e. subst (IsUnanswered later t) (same_Some (length state.events) c e)
            (made, last_read made_by state.events event made refl, refl, λ index h. not_yet index (old_answer index (length state.events) h));
        still_open = λ u c out h. still_open u c h;
        closed = λ c h. absurd (idle c h);
        begun = λ first e. subst (λ u. HasOpen (slice_set state.threads t next) u (length state.events)) (of_t first e)
            (next, at_set state.threads t thread next at, refl);
        once = λ first c reply h e f. none-some reply e;
        in_turn = λ earlier first second e f same. replied earlier first (same ∙ sym (of_t second f)) (reached.calls.ended earlier first e);
      })
