-- How addresses look in a recording that two make, and which touches of the second are right in it.
use Rattle.std.proofs.Common.{◌≡◌, ◌≢◌, ◌↔◌, ℕ, suc, ◌+◌, ◌<◌, ◌≤◌, ◌⊎◌, inl, inr, List, ◌∷◌, ◌++◌, length, take, Option, None}
use Rattle.std.proofs.Common.{refl, ap, sym, ◌∙◌, subst, arith}
use Rattle.std.proofs.Math.Seq.{take-length}
use Rattle.std.proofs.lemmas.Bool.{cases_lt}
use Rattle.std.proofs.lemmas.List.{take-map, take-append-le}
use Rattle.vs_types.specs.Space.{Space, page_at}
use Rattle.vs_types.specs.Step.{allow_in_page}
use Rattle.vs_types.specs.declared.addresses.page.Page.{Page}
use Rattle.nr_trace.specs.Recording.{Recording}
use Rattle.nr_trace.specs.Calls.{Answers}
use Rattle.nr_trace.specs.Orders.{space_from}
use Rattle.nr_trace.proofs.LawsOfLists.{In}
use Rattle.nr_trace.proofs.LawsOfCalls.{answers_within}
use Rattle.nr_trace.specs.Joined.{calls_behind, joined_traces}
use Rattle.nr_trace.specs.Run.{IsOrderly}
use Rattle.nr_trace.proofs.Lengths.{many_events, many_places}
use Rattle.nr_trace.proofs.Lists.{split_at, take_behind}
use Rattle.nr_trace.proofs.Orderly.{own_calls}
use Rattle.nr_trace.proofs.Orders.{space_left, space_both}
use Rattle.nr_trace.proofs.Parts.{answered_left, answered_right, answers_to_left, answers_to_right}
use Rattle.nr_trace.proofs.Places.{placed_in, placed_in_right, placed_left, placed_right}
use Rattle.nr_touch.specs.inside.Earlier.{EndsNowhere}
use Rattle.nr_touch.specs.Tails.{AreOpenFrom, IsNeverAnswered, Lingers}
use Rattle.nr_touch.specs.Touches.{page_after, touch_behind, ChangesLook, Ends, EndsLook, IsAllowedPrefix, IsAnsweredAt, IsAnsweredBefore, IsAnsweredInTime}
use Rattle.nr_touch.specs.Touches.{IsFaultOfLagging, IsMadeAfter, IsRightTouch}
use Rattle.nr_touch.specs.Excuses.{IsAnsweredAsNow, IsAnsweredUpToDate, IsExcusedBy, IsNewestPrefix, IsUpToDate}
use Rattle.nr_touch.specs.inside.Excused.{IsExcusedWith}
use Rattle.nr_touch.specs.declared.touches.excuse.Excuse.{Excuse}
use Rattle.nr_touch.specs.declared.touches.excuse.Excuse.TheVariants as excuses
use Rattle.nr_touch.specs.declared.touches.touch.Touch.{Touch}
use Rattle.nr_touch.proofs.NextChanges.{next_change, NextChange}
use Rattle.nr_touch.proofs.cuts.Ended.{change_within, ends_changes}

-- ---- what ends before an event

-- each update that ends that the address is found to look so, and was answered before the event, is among the first, this many
abbrev pub EndsBelow : Space → Recording → ℕ → Option Page → ℕ → ℕ → Type 0
EndsBelow start trace address page event n = (place : ℕ) → EndsLook start trace address page place → IsAnsweredBefore trace place event → place < n

-- none of the first, this many, that changes how the address looks was made after the event
abbrev pub Foresees : Space → Recording → ℕ → ℕ → ℕ → Type 0
Foresees start trace address event n = (place : ℕ) → ChangesLook start trace address place → IsMadeAfter trace place event → n ≤ place

module _ (start : Space) (trace : Recording) (address : ℕ) (page : Option Page) where
  pub open_below : (n event : ℕ) → AreOpenFrom start trace address page n → EndsBelow start trace address page event n
  open_below n event since place ends (call, placed, (reply, before, answers)) = elim (cases_lt place n) [
    | inl less ↦ less
    | inr past ↦ absurd (since place past ends call reply placed answers)
  ]

  pub below_open : (n : ℕ) → EndsBelow start trace address page (length trace.events) n → AreOpenFrom start trace address page n
  below_open n below place low ends call reply placed answers =
      let less = below place ends (call, placed, (reply, answers_within trace reply call answers, answers)) in
      omega (arith, less, low)

module _ (start : Space) (first second : Recording) (same_layout : second.layout ≡ first.layout) (orderly : IsOrderly first) where
  abbrev whole : Recording
  whole = joined_traces first second

  abbrev between : Space
  between = space_from start first first.log

  -- ---- the space after some entries

  in_taken : (n : ℕ) (x : ℕ) (xs : List ℕ) → In x (take n xs) → In x xs
  in_taken (suc n) x (y ∷ ys) (inl same) = inl same
  in_taken (suc n) x (y ∷ ys) (inr later) = inr (in_taken n x ys later)
  in_taken _ x _ i = absurd i

  pub space_front : (n : ℕ) → n ≤ length first.log → space_from start whole (take n whole.log) ≡ space_from start first (take n first.log)
  space_front n le =
      ap (space_from start whole) (take-append-le n first.log (calls_behind (length first.events) second.log) le)
      ∙ space_left start first second (take n first.log) (λ call i. own_calls first orderly call (in_taken n call first.log i))

  pub space_rest : (n : ℕ) → space_from start whole (take (length first.log + n) whole.log) ≡ space_from between second (take n second.log)
  space_rest n =
      ap (space_from start whole)
      (take_behind first.log (calls_behind (length first.events) second.log) (length first.log) n refl
      ∙ ap (λ (calls : List ℕ). first.log ++ calls) (take-map (λ (call : ℕ). length first.events + call) n second.log))
      ∙ space_both start first second first.log (take n second.log) same_layout (own_calls first orderly)

  pub look_front : (address n : ℕ) → n ≤ length first.log → page_after start whole address n ≡ page_after start first address n
  look_front address n le = ap (λ (space : Space). page_at space address) (space_front n le)

  pub look_rest : (address n : ℕ) → page_after start whole address (length first.log + n) ≡ page_after between second address n
  look_rest address n = ap (λ (space : Space). page_at space address) (space_rest n)

  look_next : (address n : ℕ) → page_after start whole address ((length first.log + n) + 1) ≡ page_after between second address (n + 1)
  look_next address n =
      ap (page_after start whole address) (let next : (length first.log + n) + 1 ≡ length first.log + (n + 1) = omega arith in next)
      ∙ look_rest address (n + 1)

  -- ---- an update changes, or ends, what it does in its own run

  module _ (P : Option Page → Option Page → Type 0) (address : ℕ) where
    at_both : {a b c d : Option Page} → a ≡ b → c ≡ d → P a c ↔ P b d
    at_both {a} {b} {c} {d} e f = (λ it. subst (λ page. P page d) e (subst (P a) f it), λ it. subst (λ page. P page c) (sym e) (subst (P b) (sym f) it))

    pub front : (place : ℕ) → place < length first.log → P (page_after start whole address place) (page_after start whole address (place + 1))
        ↔ P (page_after start first address place) (page_after start first address (place + 1))
    front place l = at_both (look_front address place (omega (arith, l))) (look_front address (place + 1) (omega (arith, l)))

    pub rest : (place : ℕ) → P (page_after start whole address (length first.log + place)) (page_after start whole address ((length first.log + place) + 1))
        ↔ P (page_after between second address place) (page_after between second address (place + 1))
    rest place = at_both (look_rest address place) (look_next address place)

  pub changes_front : (address place : ℕ) → place < length first.log → ChangesLook start whole address place ↔ ChangesLook start first address place
  changes_front = front (λ before after. before ≢ after)

  changes_rest : (address place : ℕ) → ChangesLook start whole address (length first.log + place) ↔ ChangesLook between second address place
  changes_rest = rest (λ before after. before ≢ after)

  -- an update that ends a look is one of the first run, or of the second
  abbrev EndsSo : ℕ → Option Page → ℕ → Type 0
  EndsSo address page place = ((place < length first.log) × EndsLook start first address page place)
      ⊎ ((k : ℕ) × (place ≡ length first.log + k) × EndsLook between second address page k)

  ends_so : (address : ℕ) (page : Option Page) (place : ℕ) → EndsLook start whole address page place → EndsSo address page place
  ends_so address page place ends = elim (split_at (length first.log) place) [
    | inl l ↦ inl (l, (front (Ends page) address place l).0 ends)
    | inr (k, e) ↦ inr (k, e, (rest (Ends page) address k).0 (subst (EndsLook start whole address page) e ends))
  ]

  ends_within : (address : ℕ) (page : Option Page) (place : ℕ) → EndsLook start first address page place → place < length first.log
  ends_within address page place ends = change_within start first address place
      (ends_changes page (page_after start first address place) (page_after start first address (place + 1)) ends)

  -- ---- who is answered, and when

  answered_front : (event place : ℕ) → place < length first.log → IsAnsweredBefore whole place event → IsAnsweredBefore first place (length first.events)
  answered_front event place l (call, placed, (reply, before, answers)) = elim (placed_in first second place call placed) [
    | inl here ↦
        let mine = answered_left first second reply call (orderly.own place call here) answers in
        (call, here, (reply, mine.0, mine.1))
    | inr right ↦ let e = right.1 in absurd (omega (arith, l, e))
  ]

  answered_to_front : (event place : ℕ) → IsAnsweredBefore first place event → IsAnsweredBefore whole place event
  answered_to_front event place (call, placed, (reply, before, answers)) =
      (call, placed_left first second place call placed, (reply, before, answers_to_left first second reply call answers))

  pub answered_rest : (event k : ℕ) → IsAnsweredBefore whole (length first.log + k) (length first.events + event) → IsAnsweredBefore second k event
  answered_rest event k (call, placed, (reply, lt, answers)) =
      let (mine, mine_is, same) = placed_in_right first second k call placed in
      let (own_reply, is, own_answers) =
      answered_right first second reply mine orderly.earlier (subst (λ (c : ℕ). Answers whole reply c) (sym same) answers) in
      (mine, mine_is, (own_reply, omega (arith, lt, is), own_answers))

  pub answered_to_rest : (event k : ℕ) → IsAnsweredBefore second k event → IsAnsweredBefore whole (length first.log + k) (length first.events + event)
  answered_to_rest event k (call, placed, (reply, before, answers)) = (
    length first.events + call,
    placed_right first second k call placed,
    (length first.events + reply, omega (arith, before), answers_to_right first second reply call answers),
  )

  made_rest : (event place : ℕ) → IsMadeAfter whole place (length first.events + event)
      → (k : ℕ) × (place ≡ length first.log + k) × IsMadeAfter second k event
  made_rest event place (call, placed, late) = elim (placed_in first second place call placed) [
    | inl here ↦ let l = orderly.own place call here in absurd (omega (arith, l, late))
    | inr (k, e, mine, mine_is, same) ↦ (k, e, (mine, mine_is, omega (arith, late, same)))
  ]

  -- ---- what ends before an event, and what is foreseen

  module _ (address : ℕ) (page : Option Page) (event : ℕ) where
    pub below_front : (n : ℕ) → AreOpenFrom start first address page n → EndsNowhere between second address page event
        → EndsBelow start whole address page (length first.events + event) n
    below_front n since none place ends answered = elim (ends_so address page place ends) [
      | inl (l, own) ↦
          open_below start first address page n (length first.events) since place own (answered_front (length first.events + event) place l answered)
      | inr (k, e, own) ↦ absurd (none k own
          (answered_rest event k (subst (λ p. IsAnsweredBefore whole p (length first.events + event)) e answered)))
    ]

    pub front_open : (n : ℕ) → EndsBelow start whole address page (length first.events + event) n → AreOpenFrom start first address page n
    front_open n below = below_open start first address page n (λ place ends (call, placed, (reply, before, answers)).
        below place ((front (Ends page) address place (ends_within address page place ends)).1 ends)
        (answered_to_front (length first.events + event) place (call, placed, (reply, omega (arith, before), answers))))

    pub front_nowhere : (n : ℕ) → n ≤ length first.log → EndsBelow start whole address page (length first.events + event) n
        → EndsNowhere between second address page event
    front_nowhere n low below place ends answered =
        let less = below (length first.log + place) ((rest (Ends page) address place).1 ends) (answered_to_rest event place answered) in
        omega (arith, less, low)

    pub below_rest : (n : ℕ) → EndsBelow between second address page event n
        ↔ EndsBelow start whole address page (length first.events + event) (length first.log + n)
    below_rest n = (
      λ below place ends answered. elim (ends_so address page place ends) [
        | inl (l, own) ↦ omega (arith, l)
        | inr (k, e, own) ↦
            let less = below k own (answered_rest event k (subst (λ p. IsAnsweredBefore whole p (length first.events + event)) e answered)) in
            omega (arith, less, e)
      ],
      λ below place ends answered.
          let less = below (length first.log + place) ((rest (Ends page) address place).1 ends) (answered_to_rest event place answered) in
          omega (arith, less),
    )

  foresees_rest : (address event n : ℕ) → Foresees between second address event n
      ↔ Foresees start whole address (length first.events + event) (length first.log + n)
  foresees_rest address event n = (
    λ none place changes late.
        let (k, e, own) = made_rest event place late in
        let low = none k ((changes_rest address k).0 (subst (ChangesLook start whole address) e changes)) own in
        omega (arith, low, e),
    λ none place changes (call, placed, late).
        let low = none (length first.log + place) ((changes_rest address place).1 changes)
        (length first.events + call, placed_right first second place call placed, omega (arith, late)) in
        omega (arith, low),
  )

  -- ---- what lingers behind both

  abbrev pub LingersSo : ℕ → Option Page → Type 0
  LingersSo address page =
      Lingers between second address page
      ⊎ (Lingers start first address page × ((place : ℕ) → EndsLook between second address page place → IsNeverAnswered second place))

  pub lingers_both : (address : ℕ) (page : Option Page) → Lingers start whole address page → LingersSo address page
  lingers_both address page it = elim (split_at (length first.log) it.place) [
    | inl l ↦ inr (
      record {
        place = it.place;
        changes = (changes_front address it.place l).0 it.changes;
        still_open = front_open address page (length second.events) it.place (below it.place it.still_open);
        looks = sym (look_front address it.place (omega (arith, l))) ∙ it.looks;
      },
      λ place ends call reply placed answers.
          front_nowhere address page (length second.events) it.place (omega (arith, l)) (below it.place it.still_open) place ends
          (call, placed, (reply, answers_within second reply call answers, answers)),
    )
    | inr (k, e) ↦ inl (record {
      place = k;
      changes = (changes_rest address k).0 (subst (ChangesLook start whole address) e it.changes);
      still_open = below_open between second address page k
          ((below_rest address page (length second.events) k).1 (below (length first.log + k) (subst (AreOpenFrom start whole address page) e it.still_open)));
      looks = sym (look_rest address k) ∙ ap (page_after start whole address) (sym e) ∙ it.looks;
    })
  ] where
    below : (n : ℕ) → AreOpenFrom start whole address page n → EndsBelow start whole address page (length first.events + length second.events) n
    below n since = open_below start whole address page n (length first.events + length second.events) since

  pub lingers_to_both : (address : ℕ) (page : Option Page) → LingersSo address page → Lingers start whole address page
  lingers_to_both address page (inl it) = record {
    place = length first.log + it.place;
    changes = (changes_rest address it.place).1 it.changes;
    still_open = below_open start whole address page (length first.log + it.place)
        (subst (λ event. EndsBelow start whole address page event (length first.log + it.place)) (sym (many_events first second))
        ((below_rest address page (length second.events) it.place).0 (open_below between second address page it.place (length second.events) it.still_open)));
    looks = look_rest address it.place ∙ it.looks;
  }
  lingers_to_both address page (inr (it, none)) =
      let l = change_within start first address it.place it.changes in
      record {
        place = it.place;
        changes = (changes_front address it.place l).1 it.changes;
        still_open = below_open start whole address page it.place
            (subst (λ event. EndsBelow start whole address page event it.place) (sym (many_events first second))
            (below_front address page (length second.events) it.place it.still_open
            (λ place ends (call, placed, (reply, before, answers)). none place ends call reply placed answers)));
        looks = look_front address it.place (omega (arith, l)) ∙ it.looks;
      }

  -- ---- a right touch of the second run

  module _ (touch : Touch) where
    abbrev behind : Touch
    behind = touch_behind (length first.events) (length first.log) touch

    -- the touch is answered as its address may still be found to look behind the first run: no update of the second that ends this was answered before
    abbrev pub IsOfEarlier : Type 0
    IsOfEarlier =
        (page : Option Page) × EndsNowhere between second touch.address page touch.made × Lingers start first touch.address page
        × (touch.answer ≡ allow_in_page touch.address touch.mode touch.access page)

    allowed_rest : (n : ℕ) → IsAllowedPrefix between second touch n ↔ IsAllowedPrefix start whole behind (length first.log + n)
    allowed_rest n = (
      λ is. record {
        within = let l = is.within in omega (arith, l, many_places first second);
        flushed = subst Flushed (sym (look_rest touch.address n)) ((below_rest touch.address look touch.made n).0 is.flushed);
        not_foreseen = (foresees_rest touch.address touch.answered n).0 is.not_foreseen;
      },
      λ is. record {
        within = let l = is.within in omega (arith, l, many_places first second);
        flushed = (below_rest touch.address look touch.made n).1 (subst Flushed (look_rest touch.address n) is.flushed);
        not_foreseen = (foresees_rest touch.address touch.answered n).1 is.not_foreseen;
      },
    ) where
      look : Option Page
      look = page_after between second touch.address n

      Flushed : Option Page → Type 0
      Flushed page = EndsBelow start whole touch.address page (length first.events + touch.made) (length first.log + n)

    pub in_time_rest : IsAnsweredInTime between second touch → IsAnsweredInTime start whole behind
    in_time_rest (n, is, answered) =
        (length first.log + n, (allowed_rest n).0 is, answered ∙ ap (allow_in_page touch.address touch.mode touch.access) (sym (look_rest touch.address n)))

    -- an open update's place is allowed, where no update of the second ends how the address looked
    pub right_of_earlier : IsOfEarlier → IsAnsweredInTime start whole behind
    right_of_earlier (page, none, it, answered) = (
      it.place,
      record {
        within = omega (arith, here, many_places first second);
        flushed = subst (λ (p : Option Page). EndsBelow start whole touch.address p (length first.events + touch.made) it.place) (sym looks)
            (below_front touch.address page touch.made it.place it.still_open none);
        not_foreseen = λ place changes late. let (k, e, own) = made_rest touch.answered place late in omega (arith, here, e);
      },
      answered ∙ ap (allow_in_page touch.address touch.mode touch.access) (sym looks),
    ) where
      here : it.place < length first.log
      here = change_within start first touch.address it.place it.changes

      looks : page_after start whole touch.address it.place ≡ page
      looks = look_front touch.address it.place (omega (arith, here)) ∙ it.looks

    -- a prefix of the first run is answered as one of the second, or as before the next change there
    front_parts : (n : ℕ) → n < length first.log → IsAllowedPrefix start whole behind n
        → touch.answer ≡ allow_in_page touch.address touch.mode touch.access (page_after start whole touch.address n)
        → IsAnsweredInTime between second touch ⊎ IsOfEarlier
    front_parts n l is answered = by (next_change start first touch.address n (length first.log) (omega (arith, l))) where
      page : Option Page
      page = page_after start whole touch.address n

      nowhere : EndsNowhere between second touch.address page touch.made
      nowhere = front_nowhere touch.address page touch.made n (omega (arith, l)) is.flushed

      by : NextChange start first touch.address n (length first.log)
          ⊎ (page_after start first touch.address n ≡ page_after start first touch.address (length first.log))
          → IsAnsweredInTime between second touch ⊎ IsOfEarlier
      by (inl (place, low, high, changes, same)) = inr (
        page,
        nowhere,
        record {
          place = place;
          changes = changes;
          still_open = λ other later. front_open touch.address page touch.made n is.flushed other (omega (arith, low, later));
          looks = same ∙ sym (look_front touch.address n (omega (arith, l)));
        },
        answered,
      )
      by (inr same) = inl (
        0,
        record {
          within = omega arith;
          flushed =
              λ place ends early. absurd (nowhere place (subst (λ (p : Option Page). EndsLook between second touch.address p place) (sym looks) ends) early);
          not_foreseen = λ place changes late. omega arith;
        },
        answered ∙ ap (allow_in_page touch.address touch.mode touch.access) looks,
      ) where
        looks : page ≡ page_after between second touch.address 0
        looks =
            look_front touch.address n (omega (arith, l)) ∙ same
            ∙ ap (λ (calls : List ℕ). page_at (space_from start first calls) touch.address) (take-length first.log)

    pub in_time_parts : IsAnsweredInTime start whole behind → IsAnsweredInTime between second touch ⊎ IsOfEarlier
    in_time_parts (n, is, answered) = elim (split_at (length first.log) n) [
      | inl l ↦ front_parts n l is answered
      | inr (k, e) ↦ inl (
        k,
        (allowed_rest k).1 (subst (IsAllowedPrefix start whole behind) e is),
        answered ∙ ap (allow_in_page touch.address touch.mode touch.access) (ap (page_after start whole touch.address) e ∙ look_rest touch.address k),
      )
    ]

    -- ---- faults by a table that lags

    pub lagging_rest : IsFaultOfLagging between second touch → IsFaultOfLagging start whole behind
    lagging_rest (fault, m, it) = (
      fault,
      length first.log + m,
      record {
        within = let w = it.within in omega (arith, w, many_places first second);
        known = let k = it.known in omega (arith, k);
        not_foreseen = (foresees_rest touch.address touch.answered m).0 it.not_foreseen;
        absent = look_rest touch.address m ∙ it.absent;
      },
    )

    pub lagging_parts : IsFaultOfLagging start whole behind → IsFaultOfLagging between second touch
    lagging_parts (fault, m, it) = elim (split_at (length first.log) m) [
      | inl l ↦ absurd (let known = it.known in omega (arith, known, l))
      | inr (k, e) ↦ (
        fault,
        k,
        record {
          within = let w = it.within in omega (arith, w, many_places first second, e);
          known = let known = it.known in omega (arith, known, e);
          not_foreseen = (foresees_rest touch.address touch.answered k).1
              (subst (Foresees start whole touch.address (length first.events + touch.answered)) e it.not_foreseen);
          absent = sym (look_rest touch.address k) ∙ ap (page_after start whole touch.address) (sym e) ∙ it.absent;
        },
      )
    ]

    -- ---- the newest entries, and those that have each answered change

    newest_rest : (n : ℕ) → IsNewestPrefix between second touch n ↔ IsNewestPrefix start whole behind (length first.log + n)
    newest_rest n = (
      λ is. record {
        within = let l = is.within in omega (arith, l, many_places first second);
        not_foreseen = (foresees_rest touch.address touch.answered n).0 is.not_foreseen;
        most = elim is.most [
          | inl all ↦ inl (omega (arith, all, many_places first second))
          | inr (looks, (call, placed, late)) ↦ inr (
            (changes_rest touch.address n).1 looks,
            (length first.events + call, placed_right first second n call placed, omega (arith, late)),
          )
        ];
      },
      λ is. record {
        within = let l = is.within in omega (arith, l, many_places first second);
        not_foreseen = (foresees_rest touch.address touch.answered n).1 is.not_foreseen;
        most = elim is.most [
          | inl all ↦ inl (omega (arith, all, many_places first second))
          | inr (looks, late) ↦
              let (k, e, own) = made_rest touch.answered (length first.log + n) late in
              inr (
                (changes_rest touch.address n).0 looks,
                subst (λ (place : ℕ). IsMadeAfter second place touch.answered) (let it : k ≡ n = omega (arith, e) in it) own,
              )
        ];
      },
    )

    newest_in_rest : (n : ℕ) → IsNewestPrefix start whole behind n → length first.log ≤ n
    newest_in_rest n is = elim is.most [
      | inl all ↦ omega (arith, all, many_places first second)
      | inr (looks, late) ↦ let (k, e, own) = made_rest touch.answered n late in omega (arith, e)
    ]

    -- the touch is answered as after entries of the whole, this many, where it is as after those of the second run alone
    answered_in_rest : (n : ℕ) → IsAnsweredAt between second touch n ↔ IsAnsweredAt start whole behind (length first.log + n)
    answered_in_rest n = (
      λ answered. answered ∙ ap (allow_in_page touch.address touch.mode touch.access) (sym (look_rest touch.address n)),
      λ answered. answered ∙ ap (allow_in_page touch.address touch.mode touch.access) (look_rest touch.address n),
    )

    pub as_now_rest : IsAnsweredAsNow between second touch ↔ IsAnsweredAsNow start whole behind
    as_now_rest = (
      λ (n, newest, is, answered).
          (length first.log + n, (newest_rest n).0 newest, (allowed_rest n).0 is, (answered_in_rest n).0 answered),
      λ (n, newest, is, answered). elim (split_at (length first.log) n) [
        | inl l ↦ absurd (let low = newest_in_rest n newest in omega (arith, low, l))
        | inr (k, e) ↦ (
          k,
          (newest_rest k).1 (subst (IsNewestPrefix start whole behind) e newest),
          (allowed_rest k).1 (subst (IsAllowedPrefix start whole behind) e is),
          (answered_in_rest k).1 (subst (IsAnsweredAt start whole behind) e answered),
        )
      ],
    )

    up_to_date_at : (n : ℕ) → IsUpToDate 0 between second touch n ↔ IsUpToDate (length first.log) start whole behind (length first.log + n)
    up_to_date_at n = (
      λ is. record {
        within = let l = is.within in omega (arith, l, many_places first second);
        has_earlier = omega arith;
        has_answered = (below_rest touch.address None touch.made n).0 is.has_answered;
        not_foreseen = (foresees_rest touch.address touch.answered n).0 is.not_foreseen;
      },
      λ is. record {
        within = let l = is.within in omega (arith, l, many_places first second);
        has_earlier = omega arith;
        has_answered = (below_rest touch.address None touch.made n).1 is.has_answered;
        not_foreseen = (foresees_rest touch.address touch.answered n).1 is.not_foreseen;
      },
    )

    pub up_to_date_rest : IsAnsweredUpToDate 0 between second touch ↔ IsAnsweredUpToDate (length first.log) start whole behind
    up_to_date_rest = (
      λ (n, is, answered). (length first.log + n, (up_to_date_at n).0 is, (answered_in_rest n).0 answered),
      λ (n, is, answered). elim (split_at (length first.log) n) [
        | inl l ↦ absurd (let low = is.has_earlier in omega (arith, low, l))
        | inr (k, e) ↦ (
          k,
          (up_to_date_at k).1 (subst (IsUpToDate (length first.log) start whole behind) e is),
          (answered_in_rest k).1 (subst (IsAnsweredAt start whole behind) e answered),
        )
      ],
    )

    -- ---- what excuses a touch

    in_time_both : IsAnsweredInTime between second touch ⊎ IsOfEarlier → IsAnsweredInTime start whole behind
    in_time_both (inl own) = in_time_rest own
    in_time_both (inr before) = right_of_earlier before

    pub excused_both : (excuse : Excuse) → IsExcusedWith IsOfEarlier between second touch excuse
        → IsExcusedBy (length first.log) start whole behind excuse
    excused_both excuses.None now = as_now_rest.0 now
    excused_both excuses.Open (in_time, not_now, seen) =
        (in_time_both in_time, (λ now. not_now (as_now_rest.1 now)), (λ fault. up_to_date_rest.0 (seen fault)))
    excused_both excuses.Kept (in_time, not_now, (fault, kept)) =
        (in_time_both in_time, (λ now. not_now (as_now_rest.1 now)), fault, (λ up_to_date. kept (up_to_date_rest.1 up_to_date)))
    excused_both excuses.Lagging (lagging, late) = (lagging_rest lagging, (λ in_time. late (in_time_parts in_time)))

    -- ---- right touches

    pub right_parts : IsRightTouch start whole behind → IsRightTouch between second touch ⊎ IsOfEarlier
    right_parts (inl in_time) = elim (in_time_parts in_time) [ inl mine ↦ inl (inl mine) | inr before ↦ inr before ]
    right_parts (inr lagging) = inl (inr (lagging_parts lagging))

    pub right_rest : IsRightTouch between second touch → IsRightTouch start whole behind
    right_rest (inl in_time) = inl (in_time_rest in_time)
    right_rest (inr lagging) = inr (lagging_rest lagging)

    pub right_both : IsRightTouch between second touch ⊎ IsOfEarlier → IsRightTouch start whole behind
    right_both (inl own) = right_rest own
    right_both (inr before) = inl (right_of_earlier before)
