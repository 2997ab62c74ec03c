-- The newest entries that a touch may see, those that have each answered change of its address, and what excuses touches one by one.
use Rattle.std.proofs.Common.{◌≡◌, ◌↔◌, ℕ, ◌+◌, ◌<◌, ◌≤◌, ◌^◌, ◌⊎◌, inl, inr, false, List, ◌∷◌, [], ◌++◌, get_or, length, slice_get, Option, Some, None}
use Rattle.std.proofs.Common.{IsTrue, refl, subst, sym, ap, ◌∙◌, arith}
use Rattle.std.specs.Prelude.{is_some, MatchOption}
use Rattle.std.proofs.lemmas.Bool.{false≢true}
use Rattle.std.proofs.lemmas.List.{get_or_append_left, get_or_push, length_push}
use Rattle.std.proofs.lemmas.Option.{get_or_from_slice_get, slice_get_within, slice_get-get_or}
use Rattle.vs_types.specs.Space.{Space}
use Rattle.nr_trace.specs.Recording.{Recording}
use Rattle.nr_trace.specs.Joined.{joined_traces}
use Rattle.nr_trace.specs.Run.{Run}
use Rattle.nr_touch.specs.Excuses.{IsAnsweredAsNow, IsExcusedBehind, IsExcusedBy, IsNewestPrefix, IsUpToDate}
use Rattle.nr_touch.specs.Stale.{AreRightBelow, FindsStale}
use Rattle.nr_touch.specs.Touches.{touch_behind, ChangesLook, IsAnsweredInTime, IsMadeAfter, IsRightBehind, IsRightTouch}
use Rattle.nr_touch.specs.inside.Changes.{ended_at}
use Rattle.nr_touch.specs.inside.Columns.{Covers, IsAhead, IsPast}
use Rattle.nr_touch.specs.inside.Joined.{Behind}
use Rattle.nr_touch.specs.inside.Excused.{AreExcusedBelow, IsExcusedWith, IsOpenOrKept}
use Rattle.nr_touch.specs.declared.touches.excuse.Excuse.{Excuse}
use Rattle.nr_touch.specs.declared.touches.excuse.Excuse.TheVariants as excuses
use Rattle.nr_touch.specs.declared.touches.joined.Joined.{Joined}
use Rattle.nr_touch.specs.declared.touches.touch.Touch.{Touch}
use Rattle.nr_touch.proofs.Lefts.{below_more}
use Rattle.nr_touch.proofs.Walked.{last_within, none_foreseen, up_to_foreseen}
use Rattle.nr_touch.proofs.cuts.Ended.{ends_past, past_ends}

module _ {joined : Joined} (b : Behind joined) (touch : Touch) (last : ℕ)
    (ahead : IsAhead joined.history.changes.items (λ c. Covers touch.address c × (touch.answered < c.made)) joined.places last) where
  pub newest : IsNewestPrefix b.start b.segment touch last
  newest = record {
    within = last_within b touch last ahead;
    not_foreseen = none_foreseen b touch last ahead last (omega arith);
    most = elim ahead.some [
      | inl whole ↦ inl (omega (arith, whole, b.places))
      | inr (c, has, (covered, late), at) ↦
          let known = (b.own.each c has).0 in
          inr (subst (λ (place : ℕ). ChangesLook b.start b.segment touch.address place × IsMadeAfter b.segment place touch.answered) (sym at)
          (known.differs touch.address covered, (c.made, known.made, late)))
    ];
  }

  pub newest_is : (n : ℕ) → IsNewestPrefix b.start b.segment touch n → n ≡ last
  newest_is n is =
      let up = up_to_foreseen b touch last ahead n is.within is.not_foreseen in
      let down = at_most n is in
      omega (arith, up, down) where
        at_most : (m : ℕ) → IsNewestPrefix b.start b.segment touch m → last ≤ m
        at_most m it = elim it.most [
          | inl whole ↦ let within = last_within b touch last ahead in omega (arith, within, whole)
          | inr (looks, late) ↦ none_foreseen b touch last ahead last (omega arith) m looks late
        ]

  -- entries that have each answered change of the address are those from the last such change on
  pub up_to_date : (first : ℕ) → touch.made < 2 ^ 32 → IsPast joined.history.changes.items (λ c. Covers touch.address c × (ended_at false c < touch.made)) first
      → (n : ℕ) → IsUpToDate 0 b.start b.segment touch n ↔ ((first ≤ n) × (n ≤ last))
  up_to_date first fits past n = (
    λ is. (
      past_ends b.start b.segment touch.address touch.made fits joined.history.changes.items b.own None first past n is.has_answered,
      up_to_foreseen b touch last ahead n is.within is.not_foreseen,
    ),
    λ (low, high). record {
      within = let most = last_within b touch last ahead in omega (arith, most, high);
      has_earlier = omega arith;
      has_answered = λ place looks early.
          let less = ends_past b.start b.segment touch.address touch.made fits joined.history.changes.items b.own None first past place looks early in
          omega (arith, less, low);
      not_foreseen = none_foreseen b touch last ahead n high;
    },
  )

-- a touch in time that isn't answered as its address looks now
pub excused_late : (Left : Type 0) (start : Space) (segment : Recording) (touch : Touch) (excuse : Excuse) → IsAnsweredInTime start segment touch ⊎ Left
    → (IsAnsweredAsNow start segment touch → ⊥) → IsOpenOrKept start segment touch excuse → IsExcusedWith Left start segment touch excuse
excused_late Left start segment touch excuses.None in_time not_now is = absurd is
excused_late Left start segment touch excuses.Open in_time not_now is = (in_time, not_now, is)
excused_late Left start segment touch excuses.Kept in_time not_now is = (in_time, not_now, is)
excused_late Left start segment touch excuses.Lagging in_time not_now is = absurd is

-- ---- a touch with an excuse is right

excused_right : (before : ℕ) (start : Space) (trace : Recording) (touch : Touch) (excuse : Excuse) → IsExcusedBy before start trace touch excuse
    → IsRightTouch start trace touch
excused_right before start trace touch excuses.None (n, newer, is, answered) = inl (n, is, answered)
excused_right before start trace touch excuses.Open (in_time, not_now, more) = inl in_time
excused_right before start trace touch excuses.Kept (in_time, not_now, fault, kept) = inl in_time
excused_right before start trace touch excuses.Lagging (lagging, late) = inr lagging

pub right_excused : (before : Option Run) (start : Space) (segment : Recording) (touch : Touch) (excuse : Excuse)
    → IsExcusedBehind before start segment touch excuse → IsRightBehind before start segment touch
right_excused None start segment touch excuse is = excused_right 0 start segment touch excuse is
right_excused (Some run) start segment touch excuse is = excused_right (length run.trace.log) run.start (joined_traces run.trace segment)
    (touch_behind (length run.trace.events) (length run.trace.log) touch) excuse is

-- what excuses a touch is found just where it is right
pub right_where : (before : Option Run) (start : Space) (segment : Recording) (touch : Touch) (found : Option Excuse)
    → MatchOption found (IsRightBehind before start segment touch → ⊥) (IsExcusedBehind before start segment touch)
    → IsTrue (is_some found) ↔ IsRightBehind before start segment touch
right_where before start segment touch None not = (λ t. absurd (false≢true t), λ right. absurd (not right))
right_where before start segment touch (Some excuse) is = (λ t. right_excused before start segment touch excuse is, λ right. refl)

-- ---- touch by touch

module _ (before : Option Run) (start : Space) (segment : Recording) (touches : List Touch) (list : List Excuse) (end : ℕ)
    (are : AreExcusedBelow before start segment touches list end) where
  -- the touches so far are right
  pub right_below : AreRightBelow before start segment touches end
  right_below index touch low at =
      let here : index < length list = let many = are.one_each in omega (arith, many, low) in
      let one : Excuse = get_or list index excuses.None in
      right_excused before start segment touch one (are.each index touch one at (slice_get-get_or list index excuses.None here))

  pub stale_at : (d : Touch) → end < length touches → (IsRightBehind before start segment (get_or touches end d) → ⊥)
      → FindsStale before start segment touches (Some end)
  stale_at d low wrong = (get_or touches end d, slice_get-get_or touches end d low, wrong, right_below)

  module _ (d : Touch) (excuse : Excuse) where
    abbrev more : List Excuse
    more = list ++ excuse ∷ []

    abbrev Excuses : ℕ → Excuse → Type 0
    Excuses index other = (touch : Touch) → slice_get touches index ≡ Some touch → IsExcusedBehind before start segment touch other

    many : length more ≡ length list + 1
    many = length_push list excuse

    below : (k : ℕ) (other : Excuse) → k < end → slice_get more k ≡ Some other → Excuses k other
    below k other less had touch found =
        let inside : k < length list = let fits = are.one_each in omega (arith, less, fits) in
        are.each k touch other found (slice_get-get_or list k excuse inside
        ∙ ap Some (sym (get_or_append_left list (excuse ∷ []) excuse k inside) ∙ get_or_from_slice_get more k other excuse had))

    here : IsExcusedBehind before start segment (get_or touches end d) excuse → Excuses end (get_or more end excuse)
    here is touch found =
        subst (IsExcusedBehind before start segment touch) (sym (get_or_push list excuse excuse end are.one_each))
        (subst (λ (t : Touch). IsExcusedBehind before start segment t excuse) (get_or_from_slice_get touches end touch d found) is)

    pub one_more : IsExcusedBehind before start segment (get_or touches end d) excuse → AreExcusedBelow before start segment touches more (end + 1)
    one_more is = record {
      one_each = many ∙ ap (λ (n : ℕ). n + 1) are.one_each;
      each = λ index touch other found had.
          let fits = are.one_each in
          let within = slice_get_within more index other had in
          below_more Excuses more end excuse (omega (arith, many, fits)) below (here is) index other (omega (arith, within, many, fits)) had touch found;
    }

pub none_stale : (before : Option Run) (start : Space) (segment : Recording) (touches : List Touch) (list : List Excuse) (end : ℕ)
    → length touches ≤ end → AreExcusedBelow before start segment touches list end → FindsStale before start segment touches None
none_stale before start segment touches list end all are index touch at =
    right_below before start segment touches list end are index touch
    (let low = slice_get_within touches index touch at in omega (arith, low, all)) at
