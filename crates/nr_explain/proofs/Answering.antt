-- The replies to the updates of the log, and to a touch.
use Rattle.std.proofs.Common.{◌≡◌, ◌↔◌, ℕ, ◌<◌, ◌≤◌, ◌⊎◌, ◌^◌, min, inl, inr, true, false, List, Option, Some, None, length, get_or, slice_get, refl, sym}
use Rattle.std.proofs.Common.{ap, subst, ◌∙◌, arith}
use Rattle.std.specs.Prelude.{IsTrue, IsSome, nat_lt, option_and_then}
use Rattle.std.proofs.lemmas.Bool.{cases_lt, cases_order}
use Rattle.std.proofs.lemmas.Bool.Decides.{nat_tests}
use Rattle.std.proofs.lemmas.Option.{none-some, same_Some, slice_get-get_or, slice_get_within}
use Rattle.nr_trace.specs.Recording.{Recording}
use Rattle.nr_trace.specs.Calls.{Answers, Invocation, IsCall, call_of, made_by, touch_of, unordered_in}
use Rattle.nr_trace.specs.declared.recordings.event.Event.{Event}
use Rattle.nr_trace.specs.declared.recordings.event.Asked.{Asked}
use Rattle.nr_trace.specs.declared.recordings.event.Asked.TheVariants as askeds
use Rattle.nr_trace.specs.Laws.{HasCleanLog}
use Rattle.nr_trace.proofs.LawsOfCalls.{answers_from, reply_that_answers}
use Rattle.nr_touch.specs.Touches.{IsAnsweredBefore}
use Rattle.nr_touch.specs.declared.touches.touch.Touch.{Touch}
use Rattle.nr_touch.specs.Replies.{AreReplies}
use Rattle.nr_audit.specs.Touches.{HasTouch}
use Rattle.nr_audit.proofs.TouchLists.{touch_answers}
use Rattle.nr_explain.specs.Facts.{IsCallOf, IsReplyOf, response}
use Rattle.nr_explain.specs.declared.trace.evidence.RecordedCall.{RecordedCall}
use Rattle.nr_explain.specs.declared.trace.evidence.RecordedReply.{RecordedReply}

-- the call at the place
pub there : (segment : Recording) (place call : ℕ) → place < length segment.log → call ≡ get_or segment.log place 0 → slice_get segment.log place ≡ Some call
there segment place call within is = slice_get-get_or segment.log place 0 within ∙ ap Some (sym is)

pub answers_of : (segment : Recording) (call : ℕ) (reply : RecordedReply) → IsReplyOf segment reply → reply.call ≡ call → Answers segment reply.event call
answers_of segment call reply is names = answers_from segment reply.event call (response reply) is names

-- a call that is answered before an event, by the first replies to calls
pub answered_so : (segment : Recording) (replies : List ℕ) (place call event : ℕ) → slice_get segment.log place ≡ Some call
    → AreReplies segment replies → call < length replies → event < 2 ^ 32
    → (get_or replies call 0 < event) ↔ IsAnsweredBefore segment place event
answered_so segment replies place call event is are within fits = (there_so, back) where
  told : (get_or replies call 0 < event) ↔ ((reply : ℕ) × (reply < event) × Answers segment reply call)
  told = are.first call event within fits

  there_so : get_or replies call 0 < event → IsAnsweredBefore segment place event
  there_so low = (call, is, told.0 low)

  back : IsAnsweredBefore segment place event → get_or replies call 0 < event
  back (own, placed, answered) =
      told.1 (subst (λ (c : ℕ). (reply : ℕ) × (reply < event) × Answers segment reply c) (same_Some own call (sym placed ∙ is)) answered)

-- a call is one of the events
pub call_within : (segment : Recording) (call : ℕ) → IsCall segment call → call < length segment.events
call_within segment call is = of (slice_get segment.events call) refl is where
  of : (o : Option Event) → slice_get segment.events call ≡ o → IsSome (option_and_then made_by o) → call < length segment.events
  of None none some = absurd (let wrong : false ≡ true = some in cc)
  of (Some event) got some = slice_get_within segment.events call event got

-- a call is answered once
pub one_answer : (segment : Recording) (first second call : ℕ) → HasCleanLog segment → Answers segment first call → Answers segment second call
    → first ≡ second
one_answer segment first second call clean a b = elim (cases_order first second) [
  | inl same ↦ same
  | inr other ↦ elim other [
    | inl low ↦ absurd (twice segment first second call clean a b low)
    | inr high ↦ absurd (twice segment second first call clean b a high)
  ]
] where
  twice : (segment : Recording) (low high call : ℕ) → HasCleanLog segment → Answers segment low call → Answers segment high call → low < high → ⊥
  twice segment low high call clean a b less =
      let given = reply_that_answers segment high call b in
      clean.none_twice high (given.0, given.1, (low, less, subst (Answers segment low) (sym given.2) a))

-- a touch that is answered once
pub of_touch : (segment : Recording) (call : ℕ) (reply : RecordedReply) (touch : Touch) → HasCleanLog segment → IsReplyOf segment reply → reply.call ≡ call
    → HasTouch segment touch → touch.made ≡ call → touch.answered ≡ reply.event
of_touch segment call reply touch clean is names has made =
    one_answer segment touch.answered reply.event call clean (subst (Answers segment touch.answered) made (touch_answers segment touch has))
    (answers_of segment call reply is names)

-- ---- the call of a touch

pub touch_is_call : (segment : Recording) (touch : Touch) → HasTouch segment touch → IsCall segment touch.made
touch_is_call segment touch has = of (call_of segment touch.made) has.asks where
  of : (o : Option Invocation) → option_and_then (λ (made : Invocation). unordered_in made.asked) o
      ≡ Some (askeds.Touch touch.address touch.mode touch.access)
      → IsSome o
  of None e = absurd cc
  of (Some made) e = refl

-- the address of a touch
abbrev pub touched : Asked → ℕ
touched (askeds.Touch address mode access) = address
touched asked = 0

asks_itself : (asked own : Asked) → unordered_in asked ≡ Some own → asked ≡ own
asks_itself (askeds.Request request) own e = absurd (none-some own e)
asks_itself (askeds.Touch address mode access) own e = same_Some (askeds.Touch address mode access) own e
asks_itself (askeds.Release size phys) own e = same_Some (askeds.Release size phys) own e

pub touch_asks : (segment : Recording) (call : RecordedCall) (touch : Touch) → IsCallOf segment call → HasTouch segment touch → touch.made ≡ call.event
    → call.asked ≡ askeds.Touch touch.address touch.mode touch.access
touch_asks segment call touch is has made =
    asks_itself call.asked _ (sym (ap (option_and_then (λ (m : Invocation). unordered_in m.asked)) is) ∙ ap (touch_of segment) (sym made) ∙ has.asks)

pub none_open : (segment : Recording) (call : ℕ) (touch : Touch) → HasTouch segment touch → touch.made ≡ call
    → ((index : ℕ) → Answers segment index call → ⊥) → ⊥
none_open segment call touch has made none = none touch.answered (subst (Answers segment touch.answered) made (touch_answers segment touch has))

-- ---- tests

pub less_if : (a b : ℕ) → IsTrue (nat_lt a b) ↔ (a < b)
less_if a b = (λ h. grind (arith, nat_tests), λ h. grind (arith, nat_tests))

-- the least of two
pub least : (a b m : ℕ) → m ≡ min a b → (m ≤ b) × (m ≤ a) × ((m ≡ b) ⊎ (m ≡ a))
least a b m is = (omega arith, omega arith, elim (cases_lt b a) [ inl low ↦ inl (omega arith) | inr high ↦ inr (omega arith) ])
