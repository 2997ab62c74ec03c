-- A run that is cut in two has right touches just where the two have, and the same moments show them.
use Rattle.std.proofs.Common.{◌≡◌, ℕ, ◌+◌, ◌<◌, ◌≤◌, ◌⊎◌, inl, inr, length, Option, Some, None, option_map, refl, ap, sym, ◌∙◌, subst, arith}
use Rattle.vs_types.specs.Space.{Space}
use Rattle.nr_trace.specs.Recording.{Recording}
use Rattle.nr_trace.specs.Calls.{touch_of, Response, reply_of}
use Rattle.nr_trace.specs.Laws.{HasCleanLog}
use Rattle.nr_trace.specs.Orders.{space_from}
use Rattle.nr_trace.proofs.LawsOfCalls.{reply_behind_call, reply_below}
use Rattle.nr_trace.proofs.Lengths.{many_events, many_places}
use Rattle.nr_trace.specs.Joined.{joined_traces}
use Rattle.nr_trace.specs.Run.{Run, run_with, IsOrderly}
use Rattle.nr_trace.proofs.Associated.{joined_associate}
use Rattle.nr_trace.proofs.Lists.{split_at}
use Rattle.nr_trace.proofs.Orderly.{clean_is_orderly, orderly_both}
use Rattle.nr_trace.proofs.Parts.{touch_left, touch_right, reply_behind, reply_left, reply_right, reply_from_right}
use Rattle.nr_touch.specs.Touches.{touch_behind, IsRightBehind}
use Rattle.nr_touch.specs.declared.touches.touch.Touch.{Touch}
use Rattle.nr_audit.specs.Touches.{known_when, HasTouch, HasRightTouches}
use Rattle.nr_audit.proofs.KnownEntries.{made_of}
use Rattle.chain_cuts.specs.Cut.{HaveCaughtUp, MayCome}
use Rattle.chain_cuts.specs.Moments.{touch_in_both, until_cut, HadCaughtUp, IsOfSecond, Moments, Show, ShowBehind}
use Rattle.chain_cuts.specs.Moments.Moments.{InTime, Lagging}
use Rattle.chain_cuts.proofs.KnownApart.{known_few_when, known_when_least, known_when_left, known_when_most}
use Rattle.chain_cuts.proofs.ShownMoments.{fewer, fewer_behind, right_by, show_back, show_front, shown, with_known, IsFewer}

-- ---- the touches of the one and of the other are touches of both

module _ (first second : Recording) (clean : HasCleanLog first) where
  abbrev whole : Recording
  whole = joined_traces first second

  asked_first : (touch : Touch) → HasTouch first touch → (touch.made < length first.events) × (touch.answered < length first.events)
  asked_first touch has =
      let behind = reply_behind_call first touch.answered has.reply clean has.is_reply in
      let inside = reply_below first touch.answered has.reply has.is_reply in
      let own = has.of_it in
      (omega (arith, behind.0, own, inside), inside)

  known_first : (touch : Touch) → HasTouch first touch → touch.known ≤ length first.log
  known_first touch has = let own = has.known in let few = known_few_when first touch.made clean in omega (arith, own, few)

  has_front : (touch : Touch) → HasTouch first touch → HasTouch whole touch
  has_front touch has =
      let (made_within, answered_within) = asked_first touch has in
      record {
        asks = touch_left first second touch.made made_within ∙ has.asks;
        reply = has.reply;
        is_reply = reply_left first second touch.answered answered_within ∙ has.is_reply;
        of_it = has.of_it;
        answer = has.answer;
        known = has.known ∙ sym (known_when_left first second clean touch.made made_within);
      }

  has_rest : (touch : Touch) → HasTouch second touch → HasTouch whole (touch_in_both first second touch)
  has_rest touch has = record {
    asks = touch_right first second touch.made ∙ has.asks;
    reply = reply_behind (length first.events) (length first.log) has.reply;
    is_reply =
        reply_right first second touch.answered ∙ ap (option_map (reply_behind (length first.events) (length first.log))) has.is_reply;
    of_it = ap (λ (c : ℕ). length first.events + c) has.of_it;
    answer = has.answer;
    known = refl;
  }

  -- where its replica has caught up, all that is known of it behind the cut is known in both
  rest_known : (touch : Touch) → HasTouch second touch → (moments : Moments) → HadCaughtUp first second touch moments
      → IsFewer moments (length first.log + touch.known) (known_when whole (length first.events + touch.made))
  rest_known touch has (InTime n) caught = tt
  rest_known touch has (Lagging m) caught =
      let (made, is) = made_of second touch.made _ has.asks in
      let least = known_when_least first second clean touch.made made is (caught made is) in
      let own = has.known in
      omega (arith, least, own)

  -- and no more is known in both than behind the cut
  known_rest : (touch : Touch) → HasTouch second touch → known_when whole (length first.events + touch.made) ≤ length first.log + touch.known
  known_rest touch has = let most = known_when_most first second clean touch.made in let own = has.known in omega (arith, most, own)

  -- every touch is of one of them
  abbrev OfOne : Touch → Type 0
  OfOne touch = HasTouch first touch ⊎ IsOfSecond first second touch

  pub of_one : (touch : Touch) → HasTouch whole touch → OfOne touch
  of_one touch has = by_call (split_at (length first.events) touch.made) (split_at (length first.events) touch.answered) where
    by_call : (touch.made < length first.events) ⊎ ((k : ℕ) × (touch.made ≡ length first.events + k))
        → (touch.answered < length first.events) ⊎ ((k : ℕ) × (touch.answered ≡ length first.events + k)) → OfOne touch
    by_call (inl l) (inl m) = inl (record {
      asks = sym (touch_left first second touch.made l) ∙ has.asks;
      reply = has.reply;
      is_reply = sym (reply_left first second touch.answered m) ∙ has.is_reply;
      of_it = has.of_it;
      answer = has.answer;
      known = has.known ∙ known_when_left first second clean touch.made l;
    })
    by_call (inl l) (inr (k, e)) =
        let (mine, mine_is, same) = reply_from_right first second k has.reply (subst (λ (i : ℕ). reply_of whole i ≡ Some has.reply) e has.is_reply) in
        let number : length first.events + mine.call ≡ has.reply.call = ap (λ (r : Response). r.call) same in
        absurd (omega (arith, has.of_it))
    by_call (inr (k, e)) (inl m) =
        let low = (clean_is_orderly first clean).earlier touch.answered has.reply (sym (reply_left first second touch.answered m) ∙ has.is_reply) in
        absurd (omega (arith, has.of_it))
    by_call (inr (k, e)) (inr (j, f)) =
        let (mine, mine_is, same) = reply_from_right first second j has.reply (subst (λ (i : ℕ). reply_of whole i ≡ Some has.reply) f has.is_reply) in
        let number : length first.events + mine.call ≡ has.reply.call = ap (λ (r : Response). r.call) same in
        let own : touch.known ≡ known_when whole (length first.events + k) = has.known ∙ ap (known_when whole) e in
        inr (
          record touch { made = k; answered = j; known = known_when second k },
          record {
            asks = sym (touch_right first second k) ∙ ap (touch_of whole) (sym e) ∙ has.asks;
            reply = mine;
            is_reply = mine_is;
            of_it = omega (arith, has.of_it);
            answer = ap (λ (r : Response). r.answer) same ∙ has.answer;
            known = refl;
          },
          (λ i. record touch { made = sym e i; answered = sym f i; known = sym own i }),
        )

  -- and the touches of each are touches of both
  pub of_both : (touch : Touch) → OfOne touch → HasTouch whole touch
  of_both touch (inl of_first) = has_front touch of_first
  of_both touch (inr (mine, of_second, same)) = subst (HasTouch whole) same (has_rest mine of_second)

-- ---- behind a run

abbrev pub behind : Recording → Touch → Touch
behind trace touch = touch_behind (length trace.events) (length trace.log) touch

pub same_touch : (first second : Recording) (touch : Touch) → behind first (behind second touch) ≡ behind (joined_traces first second) touch
same_touch first second touch =
    let number : (k : ℕ) → length first.events + (length second.events + k) ≡ length (joined_traces first second).events + k =
    λ k. omega (arith, many_events first second) in
    let places : length first.log + (length second.log + touch.known) ≡ length (joined_traces first second).log + touch.known =
    omega (arith, many_places first second) in
    λ i. record touch { made = number touch.made i; answered = number touch.answered i; known = places i }

module _ (start : Space) (first second : Recording) (same_layout : second.layout ≡ first.layout) (clean : HasCleanLog first) where
  abbrev between : Space
  between = space_from start first first.log

  abbrev both : Recording
  both = joined_traces first second

  orderly : IsOrderly first
  orderly = clean_is_orderly first clean

  -- ---- the moments that show them

  pub moments_front : (before : Option Run) → MayCome before first.layout → (touch : Touch) → HasTouch first touch → (moments : Moments)
      → ShowBehind before start first touch moments → ShowBehind before start both touch moments
  moments_front None may touch has moments show =
      show_front start first second same_layout orderly touch (asked_first first second clean touch has).0 moments show
  moments_front (Some run) (run_orderly, layout) touch has moments show =
      let front = joined_traces run.trace first in
      let front_orderly = orderly_both run.trace first run_orderly orderly in
      let inside = (asked_first first second clean touch has).0 in
      subst (λ (r : Recording). Show run.start r (behind run.trace touch) moments) (joined_associate run.trace first second)
      (show_front run.start front second (same_layout ∙ layout) front_orderly (behind run.trace touch)
      (omega (arith, inside, many_events run.trace first)) moments show)

  pub moments_back : (before : Option Run) → MayCome before first.layout → (touch : Touch) → HasTouch first touch → (moments : Moments)
      → ShowBehind before start both touch moments
      → ShowBehind before start first touch (until_cut (length (run_with before start first).trace.log) moments)
  moments_back None may touch has moments show =
      show_back start first second same_layout orderly touch (asked_first first second clean touch has).1
      (known_first first second clean touch has) moments show
  moments_back (Some run) (run_orderly, layout) touch has moments show =
      let front = joined_traces run.trace first in
      let inside = (asked_first first second clean touch has).1 in
      let known = known_first first second clean touch has in
      show_back run.start front second (same_layout ∙ layout) (orderly_both run.trace first run_orderly orderly) (behind run.trace touch)
      (omega (arith, inside, many_events run.trace first)) (omega (arith, known, many_places run.trace first)) moments
      (subst (λ (r : Recording). Show run.start r (behind run.trace touch) moments) (sym (joined_associate run.trace first second)) show)

  pub moments_rest : (before : Option Run) → (touch : Touch) → HasTouch second touch → (moments : Moments)
      → ShowBehind (Some (run_with before start first)) between second touch moments → ShowBehind before start both (touch_in_both first second touch) moments
  moments_rest None touch has moments show =
      let known = known_when both (length first.events + touch.made) in
      with_known start both (behind first touch) known moments
      (fewer moments known (length first.log + touch.known) (known_rest first second clean touch has)) show
  moments_rest (Some run) touch has moments show =
      let whole = joined_traces run.trace both in
      let places = length run.trace.log in
      let known = known_when both (length first.events + touch.made) in
      let most = known_rest first second clean touch has in
      with_known run.start whole (behind run.trace (behind first touch)) (places + known) moments
      (fewer moments (places + known) (places + (length first.log + touch.known)) (omega (arith, most)))
      (subst (λ (r : Recording). Show run.start r (behind run.trace (behind first touch)) moments) (joined_associate run.trace first second)
      (subst (λ (t : Touch). Show run.start (joined_traces (joined_traces run.trace first) second) t moments) (sym (same_touch run.trace first touch)) show))

  pub moments_apart : (before : Option Run) → (touch : Touch) → HasTouch second touch → (moments : Moments) → HadCaughtUp first second touch moments
      → ShowBehind before start both (touch_in_both first second touch) moments → ShowBehind (Some (run_with before start first)) between second touch moments
  moments_apart None touch has moments caught show =
      with_known start both (touch_in_both first second touch) (length first.log + touch.known) moments (rest_known first second clean touch has moments caught)
      show
  moments_apart (Some run) touch has moments caught show =
      let whole = joined_traces run.trace both in
      let places = length run.trace.log in
      let known = known_when both (length first.events + touch.made) in
      subst (λ (t : Touch). Show run.start (joined_traces (joined_traces run.trace first) second) t moments) (same_touch run.trace first touch)
      (subst (λ (r : Recording). Show run.start r (behind run.trace (behind first touch)) moments) (sym (joined_associate run.trace first second))
      (with_known run.start whole (behind run.trace (touch_in_both first second touch)) (places + (length first.log + touch.known)) moments
      (fewer_behind moments places (length first.log + touch.known) known (rest_known first second clean touch has moments caught)) show))

  -- where each replica has caught up that a touch shows to lag
  had_caught_up : (before : Option Run) → HaveCaughtUp first second → (touch : Touch) → HasTouch second touch → (moments : Moments)
      → ShowBehind before start both (touch_in_both first second touch) moments → HadCaughtUp first second touch moments
  had_caught_up before caught touch has (InTime n) show = tt
  had_caught_up None caught touch has (Lagging m) show = λ made is. caught touch made has show.0 is
  had_caught_up (Some run) caught touch has (Lagging m) show = λ made is. caught touch made has show.0 is

  -- ---- right touches

  pub touches_apart : (before : Option Run) → MayCome before first.layout → HaveCaughtUp first second → HasRightTouches before start both
      → HasRightTouches before start first × HasRightTouches (Some (run_with before start first)) between second
  touches_apart before may caught right = (
    λ touch has.
        let (moments, show) = shown before start both touch (right touch (has_front first second clean touch has)) in
        right_by before start first touch (until_cut (length (run_with before start first).trace.log) moments)
        (moments_back before may touch has moments show),
    λ touch has.
        let whole = touch_in_both first second touch in
        let (moments, show) = shown before start both whole (right whole (has_rest first second clean touch has)) in
        right_by (Some (run_with before start first)) between second touch moments
        (moments_apart before touch has moments (had_caught_up before caught touch has moments show) show),
  )

  pub touches_as_one : (before : Option Run) → MayCome before first.layout
      → HasRightTouches before start first × HasRightTouches (Some (run_with before start first)) between second → HasRightTouches before start both
  touches_as_one before may (front, rest) touch has = by_side (of_one first second clean touch has) where
    by_side : OfOne first second clean touch → IsRightBehind before start both touch
    by_side (inl of_first) =
        let (moments, show) = shown before start first touch (front touch of_first) in
        right_by before start both touch moments (moments_front before may touch of_first moments show)
    by_side (inr (mine, of_second, same)) =
        let (moments, show) = shown (Some (run_with before start first)) between second mine (rest mine of_second) in
        subst (IsRightBehind before start both) same
        (right_by before start both (touch_in_both first second mine) moments (moments_rest before mine of_second moments show))
