-- How an address looks after the prefixes that a touch of it may be answered from.
use Rattle.std.proofs.Common.{◌≡◌, ℕ, ◌<◌, ◌≤◌, ◌⊎◌, inl, inr, slice_get, Option, Some, ap, sym, ◌∙◌, subst, arith}
use Rattle.std.proofs.lemmas.Bool.{cases_lt, cases_order}
use Rattle.vs_types.specs.Space.{Space}
use Rattle.vs_types.specs.Step.{allow_in_page}
use Rattle.vs_types.specs.declared.addresses.page.Page.{Page}
use Rattle.nr_trace.specs.Recording.{Recording}
use Rattle.nr_trace.specs.Calls.{Answers, IsUpdate, reply_to}
use Rattle.nr_trace.specs.Orders.{floor}
use Rattle.nr_trace.specs.Laws.{HasCleanLog}
use Rattle.nr_trace.proofs.LawsOfCalls.{answered_stands, placed_is_update, reply_is_first, reply_that_answers, stands_once}
use Rattle.nr_trace.proofs.LawsOfPrecedence.{known_below_floor, known_of_update}
use Rattle.nr_touch.specs.Touches.{page_after, ChangesLook, EndsLook, IsAnsweredBefore, IsMadeAfter, IsAllowedPrefix, IsAnsweredAt, IsAnsweredInTime}
use Rattle.nr_touch.specs.Touches.{IsOfQuietPage, IsOfThePresent, IsRightTouch, KeepsNothing, LagsInNothing}
use Rattle.nr_touch.specs.declared.touches.touch.Touch.{Touch}
use Rattle.nr_touch.proofs.NextChanges.{same_within}

-- ---- looks of a quiet page

module _ (start : Space) (trace : Recording) (touch : Touch) (quiet : IsOfQuietPage start trace touch) (keeps : KeepsNothing start trace touch) where
  -- between two allowed prefixes no place changes how the address looks
  none_between : (m n place : ℕ) → IsAllowedPrefix start trace touch m → IsAllowedPrefix start trace touch n → m ≤ place → place < n
      → ChangesLook start trace touch.address place → ⊥
  none_between m n place first then low high changes = by_side (quiet place changes) where
    by_side : IsAnsweredBefore trace place touch.made ⊎ IsMadeAfter trace place touch.answered → ⊥
    by_side (inl answered) = let l = keeps m place first changes answered in omega arith
    by_side (inr made) = let l = then.not_foreseen place changes made in omega arith

  pub quiet_looks : (m n : ℕ) → IsAllowedPrefix start trace touch m → IsAllowedPrefix start trace touch n
      → page_after start trace touch.address m ≡ page_after start trace touch.address n
  quiet_looks m n first then = by_order (cases_order m n) where
    by_order : (m ≡ n) ⊎ ((m < n) ⊎ (n < m)) → page_after start trace touch.address m ≡ page_after start trace touch.address n
    by_order (inl e) = ap (page_after start trace touch.address) e
    by_order (inr (inl l)) = same_within start trace touch.address m n (omega (arith, l)) (λ place. none_between m n place first then)
    by_order (inr (inr l)) = sym (same_within start trace touch.address n m (omega (arith, l)) (λ place. none_between n m place then first))

-- ---- the present

-- a placed update that is answered before an event is known at it
known_at : (trace : Recording) (place event call reply : ℕ) → HasCleanLog trace → slice_get trace.log place ≡ Some call → reply < event
    → Answers trace reply call → place < floor trace event
known_at trace place event call reply clean placed before answers =
    let (response, is, names) = reply_that_answers trace reply call answers in
    let update : IsUpdate trace call = placed_is_update trace place call clean placed in
    let known = known_of_update trace response (subst (IsUpdate trace) (sym names) update) in
    let first : reply_to trace call ≡ Some response = ap (reply_to trace) (sym names) ∙ reply_is_first trace reply response clean is in
    let stands = answered_stands trace call response clean (inl update) first in
    let here : place ≡ response.at = stands_once trace call place response.at clean (inl (update, placed)) stands.0 in
    let most = known_below_floor trace reply event response before is in
    omega arith

pub present_is_allowed : (start : Space) (trace : Recording) (touch : Touch) (n : ℕ) → HasCleanLog trace → IsOfThePresent trace touch n
    → IsAllowedPrefix start trace touch n
present_is_allowed start trace touch n clean present = record {
  within = present.within;
  flushed = λ place ends (call, placed, (reply, before, answers)).
      let low = known_at trace place touch.made call reply clean placed before answers in
      let known = present.known in
      omega arith;
  not_foreseen = λ place changes made. elim (cases_lt place n) [
    | inl low ↦ absurd (present.not_foreseen place low made)
    | inr past ↦ past
  ];
}

pub present_is_right : (start : Space) (trace : Recording) (touch : Touch) (n : ℕ) → HasCleanLog trace → IsOfThePresent trace touch n
    → IsAnsweredAt start trace touch n → IsRightTouch start trace touch
present_is_right start trace touch n clean present answered = inl (n, present_is_allowed start trace touch n clean present, answered)

pub quiet_answers : (start : Space) (trace : Recording) (touch : Touch) (n : ℕ) → HasCleanLog trace → IsOfQuietPage start trace touch
    → KeepsNothing start trace touch → IsAnsweredInTime start trace touch → IsOfThePresent trace touch n → IsAnsweredAt start trace touch n
quiet_answers start trace touch n clean quiet keeps right present =
    right.2 ∙ ap (allow_in_page touch.address touch.mode touch.access)
    (quiet_looks start trace touch quiet keeps right.0 n right.1 (present_is_allowed start trace touch n clean present))

-- a right touch whose replica lags in nothing that it needs is answered in time
pub right_in_time : (start : Space) (trace : Recording) (touch : Touch) → LagsInNothing start trace touch → IsRightTouch start trace touch
    → IsAnsweredInTime start trace touch
right_in_time start trace touch caught (inl in_time) = in_time
right_in_time start trace touch caught (inr (fault, m, it)) = (
  m,
  record {
    within = it.within;
    flushed = λ place ends early.
        let looks = subst (λ (o : Option Page). EndsLook start trace touch.address o place) it.absent ends in
        let low = caught fault place looks early in
        let known = it.known in
        omega (arith, low, known);
    not_foreseen = it.not_foreseen;
  },
  fault ∙ ap (allow_in_page touch.address touch.mode touch.access) (sym it.absent),
)
