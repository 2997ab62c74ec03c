-- The updates that a stale touch should have seen, that were open then, and that were made later.
use Rattle.std.proofs.Common.{◌≡◌, ℕ, ◌+◌, ◌-◌, ◌<◌, ◌≤◌, inl, inr, Bool, Option, Some, None, length, get_or, slice_get, sym, ap, subst, ◌∙◌, arith}
use Rattle.std.specs.Prelude.{option_and_then, IfSome, IsSome}
use Rattle.std.proofs.lemmas.Bool.{cases_lt}
use Rattle.std.proofs.lemmas.Option.{get_or_from_slice_get, same_Some}
use Rattle.vs_types.specs.Space.{Space, page_at}
use Rattle.vs_types.specs.declared.requests.answer.Answer.{Answer}
use Rattle.vs_types.specs.declared.requests.request.Query.{Query}
use Rattle.nr_trace.specs.Recording.{Recording}
use Rattle.nr_trace.specs.Calls.{Answers, call_of, request_in, request_of}
use Rattle.nr_trace.proofs.LawsOfCalls.{some_or_none}
use Rattle.nr_touch.specs.Touches.{ChangesLook}
use Rattle.nr_audit.proofs.AnswerFaults.{space_stays}
use Rattle.nr_explain.specs.ChainEvidence.{IsLater, IsMissed, IsOpenBefore}
use Rattle.nr_explain.specs.ChainFacts.{EndsFinding, IsOpenEnd}
use Rattle.nr_explain.specs.Facts.{IsCallOf, IsFirstReplyTo}
use Rattle.nr_explain.specs.inside.Searches.{HasCallAt}
use Rattle.nr_explain.specs.Nearest.{IsFirstStretch, IsNearest, IsRightAfter}
use Rattle.nr_explain.specs.inside.Windows.{HasReached, IsFlushed, IsForeseen, IsWindowOf}
use Rattle.nr_explain.specs.declared.trace.evidence.PlacedUpdate.{PlacedUpdate}
use Rattle.nr_explain.specs.declared.trace.evidence.RecordedReply.{RecordedReply}
use Rattle.nr_explain.specs.declared.trace.nearby.RightAfter.{RightAfter}
use Rattle.nr_explain.specs.declared.trace.nearby.Stretch.{Stretch}
use Rattle.nr_explain.specs.declared.chain.windows.Window.{Window}
use Rattle.nr_explain.proofs.Windows.{ends_changes, first_within}

-- where a place changes how an address looks, there is a call
pub look_has_call : (start : Space) (segment : Recording) (address place : ℕ) → place < length segment.log → ChangesLook start segment address place
    → HasCallAt segment place
look_has_call start segment address place within differs call is = elim (some_or_none (call_of segment call)) [
  | inl made ↦ made
  | inr none ↦ absurd (differs (ap (λ (s : Space). page_at s address) (space_stays start segment segment.log place 0 within (asked none))))
] where
  asked : call_of segment call ≡ None → request_of segment (get_or segment.log place 0) ≡ None
  asked none = ap (request_of segment) (get_or_from_slice_get segment.log place call 0 is)
      ∙ ap (option_and_then (λ made. request_in made.asked)) none

module _ (start : Space) (segment : Recording) (address made : ℕ) (with_page : Bool) (first : ℕ)
    (reached : HasReached start segment address made with_page first) where
  module _ (some : first ≡ 0 → ⊥) where
    last : (place : ℕ) × (place + 1 ≡ first) × (place < length segment.log) × IsFlushed start segment address made with_page place
    last = elim reached [
      | inl zero ↦ absurd (some zero)
      | inr it ↦ it
    ]

    last_is : last.0 ≡ first - 1
    last_is = let next = last.1 in omega arith

    pub last_within : first - 1 < length segment.log
    last_within = subst (λ (p : ℕ). p < length segment.log) last_is last.2

    flushed : IsFlushed start segment address made with_page (first - 1)
    flushed = subst (IsFlushed start segment address made with_page) last_is last.3

    pub last_has_call : HasCallAt segment (first - 1)
    last_has_call = look_has_call start segment address (first - 1) last_within (ends_changes start segment address with_page (first - 1) flushed.0)

    module _ (update : PlacedUpdate) (place : update.place ≡ first - 1) (placed : slice_get segment.log (first - 1) ≡ Some update.call.event) where
      -- a reply to it comes before the event
      answered : (reply : ℕ) × (reply < made) × Answers segment reply update.call.event
      answered =
          let (call, there, told) = flushed.1 in
          let (reply, before, answers) = told in
          let same : call ≡ update.call.event = same_Some call update.call.event (sym there ∙ placed) in
          (reply, before, subst (Answers segment reply) same answers)

      pub has_reply : IsFirstReplyTo segment update.call.event None → ⊥
      has_reply none = none answered.0 answered.2

      pub update_missed : (reply : RecordedReply) → IsCallOf segment update.call → IsFirstReplyTo segment update.call.event (Some reply)
          → IsMissed start segment address made with_page first (Some (record { update = update; reply = reply }))
      update_missed reply call replied = (
        (let next = last.1 in let at = last_is in omega arith),
        ap (slice_get segment.log) place ∙ placed,
        call,
        replied,
        (elim (cases_lt answered.0 reply.event) [
          | inl earlier ↦ absurd (replied.2 answered.0 earlier answered.2)
          | inr later ↦ (let before = answered.1 in omega arith)
        ]),
        subst (EndsFinding start segment address with_page) (sym place) flushed.0,
      )

-- ---- the update that was open, and the one that was made later

module _ (start : Space) (segment : Recording) (address made answered : ℕ) (with_page : Bool) (window : Window)
    (is : IsWindowOf start segment address made answered with_page window) where
  within : window.first ≤ length segment.log
  within = first_within start segment address made answered with_page window is

  pub none_open_before : window.first ≤ window.still_open → IsOpenBefore start segment address made with_page window.first None
  none_open_before high place low h = let less = is.not_open place (omega (arith, low, within)) h in omega (arith, low, high, less)

  module _ (low : window.still_open < window.first) where
    open_there : (window.still_open < length segment.log) × IsOpenEnd start segment address made with_page window.still_open
    open_there = elim is.found [
      | inl none ↦ absurd (omega (arith, low, none, within))
      | inr it ↦ it
    ]

    pub open_within : window.still_open < length segment.log
    open_within = open_there.0

    pub open_has_call : HasCallAt segment window.still_open
    open_has_call =
        look_has_call start segment address window.still_open open_within (ends_changes start segment address with_page window.still_open open_there.1.0)

    pub open_found : (update : PlacedUpdate) (reply : Option RecordedReply) → update.place ≡ window.still_open
        → slice_get segment.log window.still_open ≡ Some update.call.event → IsCallOf segment update.call
        → IsFirstReplyTo segment update.call.event reply
        → IsOpenBefore start segment address made with_page window.first (Some (record { update = update; reply = reply }))
    open_found update reply place placed call replied = (
      omega (arith, low, place),
      ap (slice_get segment.log) place ∙ placed,
      call,
      replied,
      subst (IsOpenEnd start segment address made with_page) (sym place) open_there.1,
      λ other before h.
          let less = is.not_open other (omega (arith, before, place, open_within)) h in
          omega (arith, before, place, less),
    )

  module _ (inside : window.last < length segment.log) where
    later_there : IsForeseen start segment address answered window.last
    later_there = elim is.met [
      | inl all ↦ absurd (omega (arith, inside, all))
      | inr it ↦ it.1
    ]

    pub later_has_call : HasCallAt segment window.last
    later_has_call = look_has_call start segment address window.last inside later_there.0

    pub later_found : (behind : Option Stretch) (update : PlacedUpdate) → IsSome behind → update.place ≡ window.last
        → slice_get segment.log window.last ≡ Some update.call.event → IsCallOf segment update.call
        → IsLater start segment address answered window.last behind (Some update)
    later_found behind update some place placed call =
        let (changes, (own, there, late)) = later_there in
        let same : own ≡ update.call.event = same_Some own update.call.event (sym there ∙ placed) in
        (some, place, placed, call, omega (arith, late, same), changes)

-- where an answer is right after more entries than a number, there are more
pub above_within : (start : Space) (segment : Recording) (request : Query) (told : Answer) (below above : ℕ) (right : RightAfter)
    → IsNearest start segment request told below above right → IfSome right.behind (λ stretch. above < length segment.log)
above_within start segment request told below above right is = of_stretch right.behind is.behind where
  of_stretch : (behind : Option Stretch)
      → IsFirstStretch (λ n. (above < n) × (below ≤ n) × IsRightAfter start segment request told n) (length segment.log + 1) behind
      → IfSome behind (λ stretch. above < length segment.log)
  of_stretch None none = tt
  of_stretch (Some stretch) found =
      let more = (found.0.all stretch.last found.0.some (omega arith)).0 in
      let fits = found.1 in
      omega (arith, more, fits)
