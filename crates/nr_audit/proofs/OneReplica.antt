-- The table of the only replica lags in nothing.
use Rattle.std.proofs.Common.{◌≡◌, ℕ, ◌+◌, ◌<◌, ◌⊎◌, inl, inr, length, slice_get, Option, Some, None, option_and_then, refl, ap, sym, ◌∙◌, subst, arith}
use Rattle.std.specs.Option.{option_map_or}
use Rattle.std.proofs.lemmas.Option.{get_or_from_slice_get, none-some, same_Some, slice_get_within}
use Rattle.vs_types.specs.Config.{Layout}
use Rattle.vs_types.specs.Space.{Space}
use Rattle.nr_trace.specs.Recording.{IsEvent, IsRecording, Recording}
use Rattle.nr_trace.specs.Calls.{Invocation, made_by, call_of, Answers}
use Rattle.nr_trace.specs.Laws.{HasCleanLog}
use Rattle.nr_trace.specs.declared.recordings.event.Event.{Event}
use Rattle.nr_trace.specs.declared.recordings.event.Event.TheVariants as events
use Rattle.nr_trace.specs.declared.formats.version.Version.{Version}
use Rattle.nr_trace.proofs.LawsOfCalls.{answered_stands, placed_is_update, reply_behind_call, reply_is_first, reply_that_answers, stands_once, the_some}
use Rattle.nr_trace.proofs.LawsOfPrecedence.{known_of_update}
use Rattle.nr_trace.specs.Joined.{joined_traces}
use Rattle.nr_trace.specs.Run.{Run, IsOrderly}
use Rattle.nr_trace.proofs.Lists.{split_at}
use Rattle.nr_trace.proofs.Parts.{answered_right}
use Rattle.nr_trace.proofs.Places.{placed_in_right}
use Rattle.nr_touch.specs.Touches.{touch_behind, IsAnsweredBefore, IsAnsweredInTime, IsRightTouch, LagsInNothing}
use Rattle.nr_touch.specs.declared.touches.touch.Touch.{Touch}
use Rattle.nr_touch.proofs.QuietPages.{right_in_time}
use Rattle.nr_audit.specs.Touches.{known_at, HasTouch}
use Rattle.nr_audit.proofs.KnownEntries.{known_below, made_of}

-- every call is made at replica 0
asked_at : (version : Version) (layout : Layout) (event : Event) (made : Invocation) → layout.replicas ≡ 1 → IsEvent version layout event
    → made_by event ≡ Some made → made.replica ≡ 0
asked_at version layout (events.Call replica thread asked) made one is e =
    let same : replica ≡ made.replica = ap (λ (m : Invocation). m.replica) (same_Some _ made e) in
    let low = is.0 in
    omega (arith, one, low, same)
asked_at version layout (events.Reply call at answer) made one is e = absurd (none-some made e)

module _ (segment : Recording) (in_range : IsRecording segment) (one : segment.layout.replicas ≡ 1) (clean : HasCleanLog segment) where
  at_zero : (call : ℕ) (made : Invocation) → call_of segment call ≡ Some made → made.replica ≡ 0
  at_zero call made is = by_event (slice_get segment.events call) refl where
    by_event : (event : Option Event) → slice_get segment.events call ≡ event → made.replica ≡ 0
    by_event None at = absurd (none-some made (sym (ap (option_and_then made_by) at) ∙ is))
    by_event (Some event) at =
        let lt = slice_get_within segment.events call event at in
        let fits = subst (IsEvent segment.version segment.layout) (get_or_from_slice_get segment.events call event event at) (in_range.events call event lt) in
        asked_at segment.version segment.layout event made one fits (sym (ap (option_and_then made_by) at) ∙ is)

  module _ (touch : Touch) (has : HasTouch segment touch) where
    -- each update that was answered before the touch was made is known to be applied then
    answered_is_known : (place : ℕ) → IsAnsweredBefore segment place touch.made → place < touch.known
    answered_is_known place (call, placed, (index, before, answers)) =
        let (reply, is, names) = reply_that_answers segment index call answers in
        let here : slice_get segment.log place ≡ Some reply.call = placed ∙ ap (λ (c : ℕ). Some c) (sym names) in
        let update = placed_is_update segment place reply.call clean here in
        let stands = (answered_stands segment reply.call reply clean (inl update) (reply_is_first segment index reply clean is)).0 in
        let at : reply.at ≡ place = stands_once segment reply.call reply.at place clean stands (inl (update, here)) in
        let shown = known_of_update segment reply update in
        let (made, made_is) = the_some (call_of segment reply.call) (reply_behind_call segment index reply clean is).1 in
        let (own, own_is) = made_of segment touch.made _ has.asks in
        let zero = at_zero reply.call made made_is in
        let zero_too = at_zero touch.made own own_is in
        let same : made.replica ≡ own.replica = omega (arith, zero, zero_too) in
        let below = known_below segment touch.made own.replica index reply
        (record { below = before; is_reply = is; made = made; is_made = made_is; here = same }) in
        let known : touch.known ≡ known_at segment own.replica touch.made =
        has.known ∙ ap (λ (o : Option Invocation). option_map_or (λ (m : Invocation). known_at segment m.replica touch.made) o 0) own_is in
        omega (arith, at, shown, below, known)

    lags_alone : (start : Space) → LagsInNothing start segment touch
    lags_alone start = λ fault place changes before. answered_is_known place before

    pub in_time_alone : (start : Space) → IsRightTouch start segment touch → IsAnsweredInTime start segment touch
    in_time_alone start right = right_in_time start segment touch (lags_alone start) right

    -- so it is behind a run
    module _ (run : Run) (orderly : IsOrderly run.trace) where
      abbrev whole : Recording
      whole = joined_traces run.trace segment

      abbrev later : Touch
      later = touch_behind (length run.trace.events) (length run.trace.log) touch

      known_behind : (place : ℕ) → IsAnsweredBefore whole place later.made → place < later.known
      known_behind place (call, placed, (reply, before, answers)) = by_side (split_at (length run.trace.log) place) where
        by_side : (place < length run.trace.log) ⊎ ((k : ℕ) × (place ≡ length run.trace.log + k)) → place < length run.trace.log + touch.known
        by_side (inl l) = omega (arith, l)
        by_side (inr (k, e)) =
            let (mine, mine_is, same) = placed_in_right run.trace segment k call (subst (λ (p : ℕ). slice_get whole.log p ≡ Some call) e placed) in
            let (event, is, own) = answered_right run.trace segment reply mine orderly.earlier (subst (λ (c : ℕ). Answers whole reply c) (sym same) answers) in
            let low = answered_is_known k (mine, mine_is, (event, omega (arith, before, is), own)) in
            omega (arith, low, e)

      pub in_time_behind : IsRightTouch run.start whole later → IsAnsweredInTime run.start whole later
      in_time_behind right = right_in_time run.start whole later (λ fault place changes before. known_behind place before) right
