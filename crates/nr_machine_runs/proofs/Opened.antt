-- Calls and replies among the events: each call is open at a thread, or answered.
use Rattle.std.proofs.Common.{◌≡◌, ℕ, ◌<◌, ◌⊎◌, inl, inr, false, List, [], ◌∷◌, ◌++◌, length, Some, refl, ap, sym, ◌∙◌, subst, arith}
use Rattle.std.specs.Prelude.{slice_set}
use Rattle.std.proofs.lemmas.Option.{same_Some, none-some}
use Rattle.vs_types.specs.declared.requests.answer.Answer.{Answer}
use Rattle.vs_types.specs.declared.requests.request.Query.{Query}
use Rattle.nr_trace.specs.Calls.{Invocation, made_by, Response, reply_in}
use Rattle.nr_trace.specs.declared.recordings.event.Event.{Event}
use Rattle.nr_trace.specs.declared.recordings.event.Event.TheVariants as event
use Rattle.nr_trace.specs.declared.recordings.event.Asked.TheVariants as askeds
use Rattle.nr_core.specs.State.{Thread}
use Rattle.nr_core.specs.inside.Reached.{At, call_at, reply_at, RepliesTo, open_in, IsUnanswered, HasOpen, AreCalls}
use Rattle.nr_core.proofs.reached.Places.{at_set}
use Rattle.nr_core.proofs.reached.Growth.{Longer, read_within, read_stays}
use Rattle.nr_core.proofs.reached.Events.{one_longer, answer_last, last_read, calls_go_on}
use Rattle.nr_machine_runs.specs.Recorded.{idle, waiting}

-- each reply is to an earlier call
abbrev pub AreAfterCalls : List Event → Type 0
AreAfterCalls events = (index : ℕ) (reply : Response) → reply_at events index ≡ Some reply
    → (made : Invocation) × (reply.call < index) × (call_at events reply.call ≡ Some made)

pub opens : (events : List Event) (threads : List Thread) (t r : ℕ) (request : Query) → AreCalls events threads → AreAfterCalls events
    → At threads t idle → AreCalls (events ++ event.Call r t (askeds.Request request) ∷ []) (slice_set threads t (waiting (length events)))
opens events threads t r request calls replies at =
    calls_go_on events next threads t (waiting (length events)) calls (record {
      opened = λ c e. subst (IsUnanswered later t) (same_Some (length events) c e)
          (made, last_read made_by events next made refl, refl, λ index h. not_yet index (old_answer index (length events) h));
      still_open = λ u c out h. still_open u c h;
      closed = λ c h. absurd (none_open c h);
      begun = λ first e. subst (λ u. HasOpen (slice_set threads t (waiting (length events))) u (length events)) (of_t first e)
          (waiting (length events), at_set threads t idle (waiting (length events)) at, refl);
      once = λ first c reply h e f. none-some reply e;
      in_turn = λ earlier first second e f same. replied earlier first (same ∙ sym (of_t second f)) (calls.ended earlier first e);
    }) where
      next : Event
      next = event.Call r t (askeds.Request request)

      made : Invocation
      made = record { replica = r; thread = t; asked = askeds.Request request }

      later : List Event
      later = events ++ next ∷ []

      longer : Longer events later
      longer = one_longer events next

      old_answer : (index c : ℕ) → RepliesTo later index c → RepliesTo events index c
      old_answer index c h = by_side (answer_last events next index c h) where
        by_side : RepliesTo events index c
            ⊎ ((index ≡ length events) × (reply : Response) × (reply_in next ≡ Some reply) × (reply.call ≡ c)) → RepliesTo events index c
        by_side (inl k) = k
        by_side (inr (l, reply, e, f)) = absurd (none-some reply e)

      not_yet : (index : ℕ) → RepliesTo events index (length events) → ⊥
      not_yet index (reply, e, f) =
          let (first, before, is_made) = replies index reply e in
          let l = read_within made_by events reply.call first is_made in
          absurd (omega arith)

      none_open : (c : ℕ) → HasOpen threads t c → ⊥
      none_open c (other, there, opened) =
          let one : other ≡ idle = same_Some other idle (sym there ∙ at) in
          none-some c (sym (ap (λ (x : Thread). open_in x.stage) one) ∙ opened)

      still_open : (u c : ℕ) → IsUnanswered events u c → IsUnanswered later u c
      still_open u c (first, is_made, of_u, no_reply) = (
        first,
        read_stays made_by events later c first longer is_made,
        of_u,
        λ index h. no_reply index (old_answer index c h),
      )

      replied : (earlier : ℕ) (first : Invocation) → first.thread ≡ t
          → HasOpen threads first.thread earlier ⊎ ((index : ℕ) × RepliesTo events index earlier)
          → (index : ℕ) × RepliesTo events index earlier
      replied earlier first of_t (inl h) = absurd (none_open earlier (subst (λ u. HasOpen threads u earlier) of_t h))
      replied earlier first of_t (inr h) = h

      of_t : (first : Invocation) → made_by next ≡ Some first → t ≡ first.thread
      of_t first e = ap (λ (m : Invocation). m.thread) (same_Some made first e)

pub closes : (events : List Event) (threads : List Thread) (t call place : ℕ) (answer : Answer) → AreCalls events threads
    → At threads t (waiting call)
    → AreCalls (events ++ event.Reply call place answer ∷ []) (slice_set threads t idle)
closes events threads t call place answer calls at =
    calls_go_on events next threads t idle calls (record {
      opened = λ c e. absurd (none-some c e);
      still_open = still_open;
      closed = λ c h. (length events, (response, last_read reply_in events next response refl, its_open c h));
      begun = λ first e. absurd (none-some first e);
      once = λ first c r h e f. once first c h (last_call_of c (r, e, f));
      in_turn = λ earlier first second e f same. absurd (none-some second f);
    }) where
      next : Event
      next = event.Reply call place answer

      response : Response
      response = record { call = call; at = place; answer = answer }

      later : List Event
      later = events ++ next ∷ []

      longer : Longer events later
      longer = one_longer events next

      opened : IsUnanswered events t call
      opened = calls.opened t (waiting call) call at refl

      last_call_of : (c : ℕ) → (r : Response) × (reply_in next ≡ Some r) × (r.call ≡ c) → call ≡ c
      last_call_of c (r, e, f) = ap (λ (x : Response). x.call) (same_Some response r e) ∙ f

      still_open : (u c : ℕ) → (u ≡ t → ⊥) → IsUnanswered events u c → IsUnanswered later u c
      still_open u c out (first, is_made, of_u, no_reply) = (
        first,
        read_stays made_by events later c first longer is_made,
        of_u,
        λ index h. by_side index (answer_last events next index c h),
      ) where
        mine : call ≡ c → ⊥
        mine e =
            let (made, is_mine, of_t, none) = opened in
            let one : first ≡ made = same_Some first made (sym is_made ∙ ap (call_at events) (sym e) ∙ is_mine) in
            out (sym of_u ∙ ap (λ (m : Invocation). m.thread) one ∙ of_t)

        by_side : (index : ℕ) → RepliesTo events index c
            ⊎ ((index ≡ length events) × (r : Response) × (reply_in next ≡ Some r) × (r.call ≡ c)) → ⊥
        by_side index (inl h) = no_reply index h
        by_side index (inr (l, r, e, f)) = mine (last_call_of c (r, e, f))

      its_open : (c : ℕ) → HasOpen threads t c → call ≡ c
      its_open c (other, there, open_there) =
          let one : waiting call ≡ other = same_Some (waiting call) other (sym at ∙ there) in
          same_Some call c (ap (λ (x : Thread). open_in x.stage) one ∙ open_there)

      once : (first c : ℕ) → RepliesTo events first c → call ≡ c → ⊥
      once first c h e = let (made, is_mine, of_t, none) = opened in none first (subst (RepliesTo events first) (sym e) h)
