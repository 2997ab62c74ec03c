-- Reply.
use Rattle.std.proofs.Common.{◌≡◌, ℕ, ◌<◌, ◌⊎◌, inl, inr, List, [], ◌∷◌, ◌++◌, length, Some, refl, ap, sym, ◌∙◌, subst}
use Rattle.std.specs.Prelude.{slice_set}
use Rattle.std.proofs.lemmas.Option.{same_Some, none-some}
use Rattle.vs_types.specs.declared.requests.request.Query.{Query}
use Rattle.nr_trace.specs.Calls.{Invocation, made_by, Response, reply_in}
use Rattle.nr_trace.specs.declared.recordings.event.Event.{Event}
use Rattle.nr_trace.specs.declared.recordings.event.Event.TheVariants as events
use Rattle.nr_core.specs.State.{State, Thread, with_thread}
use Rattle.nr_core.specs.declared.states.stage.Answered.{Answered}
use Rattle.nr_core.specs.declared.states.stage.Stage.TheVariants.{Idle, Ready, HasRead, Taken}
use Rattle.nr_core.specs.inside.Reached.{At, call_at, RepliesTo, made_of, shared_in, FitsStage, IsRight, open_in, IsUnanswered, HasOpen, AreCalls, IsReached}
use Rattle.nr_core.proofs.reached.Growth.{Longer, read_within, read_stays}
use Rattle.nr_core.proofs.reached.Events.{one_longer, answer_last, last_read, calls_go_on, event_recorded}

replied : (state : State) (t : ℕ) (thread : Thread) (a : Answered) (request : Query) → IsReached state → At state.threads t thread
    → open_in thread.stage ≡ Some a.call → ((call : ℕ) → thread.stage ≡ Taken call → ⊥)
    → call_at state.events a.call ≡ Some (made_of state.layout t request)
    → IsRight state.layout (shared_in state) (made_of state.layout t request) a.call a.at a.answer
    → IsReached (record (with_thread state t (record thread { stage = Idle })) { events = state.events ++ events.Reply a.call a.at a.answer ∷ [] })
replied state t thread a request reached at is not_taken asks right =
    event_recorded state t thread next event reached at not_taken calls (λ r e. answers r (same_Some response r e)) tt (λ c e. absurd (none-some c e)) where
      next : Thread
      next = record thread { stage = Idle }

      event : Event
      event = events.Reply a.call a.at a.answer

      response : Response
      response = record { call = a.call; at = a.at; answer = a.answer }

      later : List Event
      later = state.events ++ event ∷ []

      longer : Longer state.events later
      longer = one_longer state.events event

      answers : (r : Response) → response ≡ r → (made : Invocation) × (r.call < length state.events) × (call_at state.events r.call ≡ Some made)
          × IsRight state.layout (shared_in state) made r.call r.at r.answer
      answers r one = subst (λ (x : Response). (made : Invocation) × (x.call < length state.events) × (call_at state.events x.call ≡ Some made)
          × IsRight state.layout (shared_in state) made x.call x.at x.answer) one
          (made_of state.layout t request, read_within made_by state.events a.call _ asks, asks, right)

      opened : IsUnanswered state.events t a.call
      opened = reached.calls.opened t thread a.call at is

      last_call_of : (c : ℕ) → (r : Response) × (reply_in event ≡ Some r) × (r.call ≡ c) → a.call ≡ c
      last_call_of c (r, e, f) = ap (λ (x : Response). x.call) (same_Some response r e) ∙ f

      -- another thread's open call has no reply still
      still_open : (u c : ℕ) → (u ≡ t → ⊥) → IsUnanswered state.events u c → IsUnanswered later u c
      still_open u c out (first, is_made, of_u, no_reply) = (
        first,
        read_stays made_by state.events later c first longer is_made,
        of_u,
        λ index h. by_side index (answer_last state.events event index c h),
      ) where
        mine : a.call ≡ c → ⊥
        mine e =
            let (made, is_mine, of_t, none) = opened in
            let one : first ≡ made = same_Some first made (sym is_made ∙ ap (call_at state.events) (sym e) ∙ is_mine) in
            out (sym of_u ∙ ap (λ (m : Invocation). m.thread) one ∙ of_t)

        by_side : (index : ℕ) → RepliesTo state.events index c
            ⊎ ((index ≡ length state.events) × (r : Response) × (reply_in event ≡ Some r) × (r.call ≡ c)) → ⊥
        by_side index (inl h) = no_reply index h
        by_side index (inr (l, r, e, f)) = mine (last_call_of c (r, e, f))

      its_open : (c : ℕ) → HasOpen state.threads t c → a.call ≡ c
      its_open c (other, there, open_there) =
          let one : thread ≡ other = same_Some thread other (sym at ∙ there) in
          same_Some a.call c (sym is ∙ ap (λ (x : Thread). open_in x.stage) one ∙ open_there)

      once : (first c : ℕ) → RepliesTo state.events first c → a.call ≡ c → ⊥
      once first c h e = let (made, is_mine, of_t, none) = opened in none first (subst (RepliesTo state.events first) (sym e) h)

      calls : AreCalls later (slice_set state.threads t next)
      calls = calls_go_on state.events event state.threads t next reached.calls (record {
        opened = λ c e. absurd (none-some c e);
        still_open = still_open;
        closed = λ c h. (length state.events, (response, last_read reply_in state.events event response refl, its_open c h));
        begun = λ first e. absurd (none-some first e);
        once = λ first c r h e f. once first c h (last_call_of c (r, e, f));
        in_turn = λ earlier first second e f same. absurd (none-some second f);
      })

pub has_replied : (state : State) (t : ℕ) (thread : Thread) (a : Answered) → IsReached state → At state.threads t thread
    → (thread.stage ≡ Ready a) ⊎ (thread.stage ≡ HasRead a)
    → IsReached (record (with_thread state t (record thread { stage = Idle })) { events = state.events ++ events.Reply a.call a.at a.answer ∷ [] })
has_replied state t thread a reached at (inl is) =
    let (request, asks, right) = subst (FitsStage state.layout (shared_in state) t) is (reached.threads t thread at) in
    replied state t thread a request reached at (ap open_in is) (λ c e. cc) asks right
has_replied state t thread a reached at (inr is) =
    let (request, asks, right) = subst (FitsStage state.layout (shared_in state) t) is (reached.threads t thread at) in
    replied state t thread a request reached at (ap open_in is) (λ c e. cc) asks right
