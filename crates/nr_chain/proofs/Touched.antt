-- A touch of the first of two runs is right in both just where it is right in the first.
use Rattle.std.proofs.Common.{◌≡◌, ℕ, ◌+◌, ◌-◌, ◌<◌, ◌≤◌, inl, inr, length, min, Option}
use Rattle.std.proofs.Common.{ap, sym, ◌∙◌, subst, arith}
use Rattle.std.proofs.Math.Nat.{min-eq_right}
use Rattle.std.proofs.lemmas.Bool.{cases_lt}
use Rattle.std.proofs.lemmas.Option.{slice_get_within}
use Rattle.vs_types.specs.Space.{Space}
use Rattle.vs_types.specs.Step.{allow_in_page}
use Rattle.vs_types.specs.declared.addresses.page.Page.{Page}
use Rattle.vs_types.proofs.Lists.{item_of}
use Rattle.nr_trace.specs.Recording.{Recording}
use Rattle.nr_trace.specs.Calls.{Answers}
use Rattle.nr_trace.specs.Joined.{joined_traces}
use Rattle.nr_trace.specs.Run.{IsOrderly}
use Rattle.nr_trace.proofs.Parts.{answered_right, answers_left, answers_to_left}
use Rattle.nr_trace.proofs.Places.{placed_in, placed_left, placed_right}
use Rattle.nr_touch.specs.Touches.{page_after, ChangesLook, IsAllowedPrefix, IsAnsweredAt, IsAnsweredBefore, IsAnsweredInTime, IsLagging, IsMadeAfter}
use Rattle.nr_touch.specs.Touches.{Ends, EndsLook, IsRightTouch}
use Rattle.nr_touch.specs.declared.touches.touch.Touch.{Touch}
use Rattle.nr_trace.proofs.Lengths.{many_places}
use Rattle.nr_touch.proofs.NextChanges.{same_within}
use Rattle.nr_touch.proofs.cuts.Behind.{changes_front, front, look_front, EndsBelow, Foresees}

-- another touch of the same events that is answered so
pub in_time_as : (start : Space) (trace : Recording) (touch : Touch) (made answered known : ℕ) → touch.made ≡ made → touch.answered ≡ answered
    → IsAnsweredInTime start trace touch
    → IsAnsweredInTime start trace (record touch { made = made; answered = answered; known = known })
in_time_as start trace touch made answered known of_made of_answered (n, allowed, so) = (
  n,
  record {
    within = allowed.within;
    flushed = λ place ends before. allowed.flushed place ends (subst (λ (event : ℕ). IsAnsweredBefore trace place event) (sym of_made) before);
    not_foreseen = λ place changes after.
        allowed.not_foreseen place changes (subst (λ (event : ℕ). IsMadeAfter trace place event) (sym of_answered) after);
  },
  so,
)

module _ (start : Space) (first second : Recording) (same_layout : second.layout ≡ first.layout) (orderly : IsOrderly first) (touch : Touch) where
  abbrev whole : Recording
  whole = joined_traces first second

  abbrev long : ℕ
  long = length first.log

  look : (n : ℕ) → n ≤ long → page_after start whole touch.address n ≡ page_after start first touch.address n
  look n le = look_front start first second same_layout orderly touch.address n le

  more_places : long ≤ length whole.log
  more_places = let all = many_places first second in omega (arith, all)

  -- ---- what ends before the touch, and what it foresees, in both

  below_first : (page : Option Page) (n : ℕ) → touch.made < length first.events → EndsBelow start first touch.address page touch.made n
      → EndsBelow start whole touch.address page touch.made n
  below_first page n made below place ends (call, placed, (reply, before, answers)) = elim (placed_in first second place call placed) [
    | inl here ↦ below place
        ((front start first second same_layout orderly (Ends page) touch.address place (slice_get_within first.log place call here)).0 ends)
        (call, here, (reply, before, answers_left first second reply call (omega (arith, before, made)) answers))
    | inr (k, e, mine, mine_is, same) ↦ absurd (
        let it = answered_right first second reply mine orderly.earlier (subst (λ (c : ℕ). Answers whole reply c) same answers) in
        let late = it.1 in
        omega (arith, late, before, made))
  ]

  first_below : (page : Option Page) (n : ℕ) → EndsBelow start whole touch.address page touch.made n → EndsBelow start first touch.address page touch.made n
  first_below page n below place ends (call, placed, (reply, before, answers)) = below place
      ((front start first second same_layout orderly (Ends page) touch.address place (slice_get_within first.log place call placed)).1 ends)
      (call, placed_left first second place call placed, (reply, before, answers_to_left first second reply call answers))

  foresees_front : (n : ℕ) → n ≤ long → Foresees start first touch.address touch.answered n → Foresees start whole touch.address touch.answered n
  foresees_front n l none place changes (call, placed, late) = elim (placed_in first second place call placed) [
    | inl here ↦ none place
        ((changes_front start first second same_layout orderly touch.address place (slice_get_within first.log place call here)).0 changes) (call, here, late)
    | inr (k, e, mine, mine_is, same) ↦ omega (arith, l, e)
  ]

  front_foresees : (n : ℕ) → Foresees start whole touch.address touch.answered n → Foresees start first touch.address touch.answered n
  front_foresees n none place changes (call, placed, late) = none place
      ((changes_front start first second same_layout orderly touch.address place (slice_get_within first.log place call placed)).1 changes)
      (call, placed_left first second place call placed, late)

  -- ---- a right touch of the first run is right in both

  pub in_time_front : (n : ℕ) → touch.made < length first.events → IsAllowedPrefix start first touch n → IsAnsweredAt start first touch n
      → IsAllowedPrefix start whole touch n × IsAnsweredAt start whole touch n
  in_time_front n made_within allowed answered = (
    record {
      within = let le = allowed.within in omega (arith, le, more_places);
      flushed = subst (λ (page : Option Page). EndsBelow start whole touch.address page touch.made n) (sym (look n allowed.within))
          (below_first (page_after start first touch.address n) n made_within allowed.flushed);
      not_foreseen = foresees_front n allowed.within allowed.not_foreseen;
    },
    answered ∙ ap (allow_in_page touch.address touch.mode touch.access) (sym (look n allowed.within)),
  )

  pub lagging_front : (m : ℕ) → IsLagging start first touch m → IsLagging start whole touch m
  lagging_front m it = record {
    within = let le = it.within in omega (arith, le, more_places);
    known = it.known;
    not_foreseen = foresees_front m it.within it.not_foreseen;
    absent = look m it.within ∙ it.absent;
  }

  pub right_front : touch.made < length first.events → IsRightTouch start first touch → IsRightTouch start whole touch
  right_front made_within (inl (n, allowed, answered)) = let both = in_time_front n made_within allowed answered in inl (n, both.0, both.1)
  right_front made_within (inr (fault, m, it)) = inr (fault, m, lagging_front m it)

  -- ---- and the other way round

  -- what comes behind the first run was made after the touch was answered
  unchanged : (n : ℕ) → touch.answered < length first.events → n ≤ length whole.log → Foresees start whole touch.address touch.answered n
      → (place : ℕ) → long ≤ place → place < n → ChangesLook start whole touch.address place → ⊥
  unchanged n answered_within within not_foreseen place low high changes =
      let all = many_places first second in
      let k = place - length first.log in
      let at : place ≡ length first.log + k = omega (arith, low) in
      let (call, is) = item_of second.log k (omega (arith, all, within, high, at)) in
      let late : n ≤ length first.log + k = not_foreseen (length first.log + k) (subst (ChangesLook start whole touch.address) at changes)
      (length first.events + call, placed_right first second k call is, omega (arith, answered_within)) in
      omega (arith, late, high, at)

  -- a moment that is past the first run counts as its end
  end_of_past : (n : ℕ) → long < n → long ≡ min long n
  end_of_past n past = omega (arith, past)

  -- an address looks so from there on, up to what is allowed
  look_back : (n : ℕ) → touch.answered < length first.events → n ≤ length whole.log → Foresees start whole touch.address touch.answered n
      → page_after start whole touch.address n ≡ page_after start first touch.address (min long n)
  look_back n answered_within within not_foreseen = elim (cases_lt long n) [
    | inl past ↦
        sym (same_within start whole touch.address long n (omega (arith, past))
        (λ place low high. unchanged n answered_within within not_foreseen place low high))
        ∙ look long (omega arith) ∙ ap (page_after start first touch.address) (end_of_past n past)
    | inr low ↦ look n low ∙ ap (page_after start first touch.address) (sym (min-eq_right low))
  ]

  foresees_back : (n : ℕ) → Foresees start whole touch.address touch.answered n → Foresees start first touch.address touch.answered (min long n)
  foresees_back n none place changes late =
      let low = front_foresees n none place changes late in omega (arith, low)

  pub in_time_at_back : (n : ℕ) → touch.answered < length first.events → IsAllowedPrefix start whole touch n → IsAnsweredAt start whole touch n
      → IsAllowedPrefix start first touch (min long n) × IsAnsweredAt start first touch (min long n)
  in_time_at_back n answered_within allowed answered = (
    record {
      within = omega arith;
      flushed = λ place ends (call, placed, early).
          let less = below place (subst (λ (page : Option Page). EndsLook start first touch.address page place) (sym same) ends) (call, placed, early) in
          let here = slice_get_within first.log place call placed in
          omega (arith, less, here);
      not_foreseen = foresees_back n allowed.not_foreseen;
    },
    answered ∙ ap (allow_in_page touch.address touch.mode touch.access) same,
  ) where
    same : page_after start whole touch.address n ≡ page_after start first touch.address (min long n)
    same = look_back n answered_within allowed.within allowed.not_foreseen

    below : EndsBelow start first touch.address (page_after start whole touch.address n) touch.made n
    below = first_below (page_after start whole touch.address n) n allowed.flushed

  pub in_time_back : touch.answered < length first.events → IsAnsweredInTime start whole touch → IsAnsweredInTime start first touch
  in_time_back answered_within (n, allowed, answered) =
      let both = in_time_at_back n answered_within allowed answered in (min long n, both.0, both.1)

  pub lagging_back : (m : ℕ) → touch.answered < length first.events → touch.known ≤ long → IsLagging start whole touch m
      → IsLagging start first touch (min long m)
  lagging_back m answered_within known_within it = record {
    within = omega arith;
    known = let all = it.known in omega (arith, all, known_within);
    not_foreseen = foresees_back m it.not_foreseen;
    absent = sym (look_back m answered_within it.within it.not_foreseen) ∙ it.absent;
  }
