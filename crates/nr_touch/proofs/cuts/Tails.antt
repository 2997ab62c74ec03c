-- What is left behind a run and a segment, and which touches of the segment it answers.
use Rattle.std.proofs.Common.{◌≡◌, ◌↔◌, ℕ, ◌<◌, ◌^◌, ◌⊎◌, inl, inr, Bool, is_some, List, ◌++◌, length, map, get_or, slice_get, Option, Some, None, Contains, IfSome}
use Rattle.std.proofs.Common.{refl, sym, ap, ◌∙◌, subst, arith}
use Rattle.std.specs.List.Sorted.{IsPermutation}
use Rattle.std.proofs.lemmas.List.Sorted.{IsPermutation-sym, Contains-permutation}
use Rattle.std.proofs.lemmas.Option.{slice_get-get_or}
use Rattle.vs_types.specs.Space.{Space}
use Rattle.vs_types.specs.Step.{allow_in_page}
use Rattle.vs_types.specs.declared.addresses.page.Page.{Page}
use Rattle.vs_types.proofs.Lists.{not_in_nil}
use Rattle.nr_trace.specs.Recording.{Recording}
use Rattle.nr_trace.specs.Calls.{Answers}
use Rattle.nr_trace.specs.Orders.{space_from}
use Rattle.nr_trace.specs.Run.{Run, run_with, IsOrderly}
use Rattle.nr_trace.proofs.Orderly.{orderly_both, space_of_both}
use Rattle.nr_touch.specs.Tails.{GoesOn, HasIndexes, IsLeft, IsNeverAnswered, IsTailOf, Lingers}
use Rattle.nr_touch.specs.Touches.{page_after, ChangesLook, EndsLook, IsRightBehind, IsRightTouch}
use Rattle.nr_touch.specs.inside.Changes.{ended_at, page_before, AreChanges}
use Rattle.nr_touch.specs.inside.Columns.{Covers, IsNumbered, IsPast}
use Rattle.nr_touch.specs.inside.Earlier.{AreOfRun, IsAnsweredSo, IsOfLeft}
use Rattle.nr_touch.specs.inside.Indexed.{HasPages}
use Rattle.nr_touch.specs.inside.Joined.{Behind}
use Rattle.nr_touch.specs.inside.Lefts.{left_of, ArePlacedAs, KeepLooks}
use Rattle.nr_touch.specs.inside.Levels.{left_in}
use Rattle.nr_touch.specs.inside.Listed.{AreListed}
use Rattle.nr_touch.specs.inside.Sights.{IsAnsweredBetween}
use Rattle.nr_touch.specs.declared.changes.change.PlacedChange.{PlacedChange}
use Rattle.nr_touch.specs.declared.releases.lingering.Indexes.{Indexes}
use Rattle.nr_touch.specs.declared.touches.joined.Joined.{Joined}
use Rattle.nr_touch.specs.declared.touches.tail.Left.{Left}
use Rattle.nr_touch.specs.declared.touches.tail.Tail.{Tail}
use Rattle.nr_touch.specs.Excuses.{IsExcusedBehind, IsExcusedBy}
use Rattle.nr_touch.specs.inside.Excused.{IsExcusedWith}
use Rattle.nr_touch.specs.declared.touches.excuse.Excuse.{Excuse}
use Rattle.nr_touch.specs.declared.touches.excuse.Excuse.TheVariants as excuses
use Rattle.nr_touch.specs.declared.touches.touch.Touch.{Touch}
use Rattle.nr_touch.proofs.Sighted.{contains_map}
use Rattle.nr_touch.proofs.cuts.Behind.{excused_both, lingers_both, lingers_to_both, right_both, right_parts}
use Rattle.nr_touch.proofs.cuts.Ended.{change_within, ends_past, past_ends}
use Rattle.nr_touch.proofs.cuts.Lefts.{left_both, left_parts}
use Rattle.nr_touch.proofs.cuts.Placed.{left_lingers, left_sorted, no_end, AreRising}

-- ---- what is left behind a run and a segment

pub no_indexes : (tail : Tail) (space : Space) → tail.index ≡ None → HasIndexes tail space
no_indexes tail space none =
    subst (λ (index : Option Indexes). IfSome index (λ i. HasPages i.pages space × AreListed (IsLeft tail.changes.items) i.lingering i.gone)) (sym none) tt

pub index_of_tail : (before : Option Run) (start : Space) (segment : Recording) (tail : Tail) → GoesOn before segment start → IsTailOf before tail
    → HasIndexes tail start
index_of_tail None start segment tail goes_on (none, no_index) = no_indexes tail start no_index
index_of_tail (Some run) start segment tail (ends, same_layout) of_it = subst (HasIndexes tail) (sym ends) of_it.index

-- what lingers behind a run and a segment: what does behind the segment, and what was left before it, where no answer of the segment ends that
abbrev AreOpen : Space → Recording → ℕ → Option Page → Type 0
AreOpen start segment address page = (place : ℕ) → EndsLook start segment address page place → IsNeverAnswered segment place

abbrev LingersWith : Space → Recording → ℕ → Option Page → Type 0 → Type 0
LingersWith start segment address page Left = Lingers start segment address page ⊎ (Left × AreOpen start segment address page)

lingers_with : (before : Option Run) (start : Space) (segment : Recording) (tail : Tail) → IsTailOf before tail → GoesOn before segment start
    → (address : ℕ) (page : Option Page)
    → Lingers (run_with before start segment).start (run_with before start segment).trace address page
    ↔ LingersWith start segment address page (IsLeft tail.changes.items address page)
lingers_with None start segment tail (none, no_index) goes_on address page = (
  λ it. inl it,
  λ it. elim it [ inl own ↦ own | inr old ↦ absurd (subst (λ (xs : List Left). IsLeft xs address page) none old.0) ],
)
lingers_with (Some run) start segment tail of_it (ends, same_layout) address page = (
  λ it. subst (λ (s : Space). LingersWith s segment address page (IsLeft tail.changes.items address page)) (sym ends)
      (elim (lingers_both run.start run.trace segment same_layout of_it.orderly address page it) [
        | inl own ↦ inl own
        | inr old ↦ inr ((of_it.left address page).1 old.0, old.1)
      ]),
  λ it. lingers_to_both run.start run.trace segment same_layout of_it.orderly address page
      (elim (subst (λ (s : Space). LingersWith s segment address page (IsLeft tail.changes.items address page)) ends it) [
        | inl own ↦ inl own
        | inr old ↦ inr ((of_it.left address page).0 old.0, old.1)
      ]),
)

-- a tail that has these looks
with_looks : (before : Option Run) (start : Space) (segment : Recording) (tail found : Tail) → IsTailOf before tail → GoesOn before segment start
    → IsOrderly segment → HasIndexes found (space_from start segment segment.log)
    → ((address : ℕ) (page : Option Page) → IsLeft found.changes.items address page
    ↔ LingersWith start segment address page (IsLeft tail.changes.items address page))
    → IsTailOf (Some (run_with before start segment)) found
with_looks before start segment tail found of_it goes_on orderly indexed looks = by before of_it goes_on (λ address page.
    let one = looks address page in
    let then = lingers_with before start segment tail of_it goes_on address page in
    (λ it. then.1 (one.0 it), λ it. one.1 (then.0 it))) where
      by : (run : Option Run) → IsTailOf run tail → GoesOn run segment start
          → ((address : ℕ) (page : Option Page) → IsLeft found.changes.items address page
          ↔ Lingers (run_with run start segment).start (run_with run start segment).trace address page)
          → IsTailOf (Some (run_with run start segment)) found
      by None of_tail on left = record { orderly = orderly; left = left; index = indexed }
      by (Some run) of_tail (ends, same_layout) left = record {
        orderly = orderly_both run.trace segment of_tail.orderly orderly;
        left = left;
        index = subst (HasIndexes found)
            (ap (λ (s : Space). space_from s segment segment.log) ends ∙ sym (space_of_both run.start run.trace segment same_layout of_tail.orderly)) indexed;
      }

pub tail_with : (start : Space) (segment : Recording) → IsOrderly segment → (own : List PlacedChange) → AreChanges start segment own → AreRising own
    → length segment.events < 4294967295 → (before : Option Run) (tail found : Tail)
    → HasIndexes found (space_from start segment segment.log) → IsTailOf before tail → GoesOn before segment start
    → KeepLooks (tail.changes.items ++ map left_of own) found.changes.items → IsTailOf (Some (run_with before start segment)) found
tail_with start segment orderly own are rises few before tail found indexed of_it goes_on keep =
    with_looks before start segment tail found of_it goes_on orderly indexed (λ address page. (
      λ it. elim (left_parts address page tail.changes.items (map left_of own) ((keep address page).0 it)) [
        | inl mine ↦ inl ((left_lingers start segment own are rises few address page).0 mine)
        | inr old ↦ inr (old.0, (no_end start segment own are rises few address page).0 old.1)
      ],
      λ it. (keep address page).1 (left_both address page tail.changes.items (map left_of own) (elim it [
        | inl mine ↦ inl ((left_lingers start segment own are rises few address page).1 mine)
        | inr old ↦ inr (old.0, (no_end start segment own are rises few address page).1 old.1)
      ])),
    ))

-- each update that changes how an address looks ends that it is found so
abbrev pub EachEnds : Space → Recording → Type 0
EachEnds start segment = (address place : ℕ) → ChangesLook start segment address place
    → EndsLook start segment address (page_after start segment address place) place

-- behind a run that leaves nothing, a segment whose log has answered calls alone, each of which ends what it changes, leaves nothing
pub nothing_left : (segment : Recording) → ((place call : ℕ) → slice_get segment.log place ≡ Some call → (reply : ℕ) × Answers segment reply call)
    → (before : Option Run) (start : Space) (tail : Tail) → IsTailOf before tail → IsTailOf None tail → GoesOn before segment start → IsOrderly segment
    → EachEnds start segment → IsTailOf (Some (run_with before start segment)) tail
nothing_left segment answered before start tail of_it (none, no_index) goes_on orderly each =
    with_looks before start segment tail tail of_it goes_on orderly
    (no_indexes tail (space_from start segment segment.log) no_index) (λ address page. (
      λ left. absurd (subst (λ (xs : List Left). IsLeft xs address page) none left),
      λ it. elim it [
        | inl own ↦ absurd (none_lingers address page own)
        | inr old ↦ old.0
      ],
    )) where
      none_lingers : (address : ℕ) (page : Option Page) → Lingers start segment address page → ⊥
      none_lingers address page it =
          let within = change_within start segment address it.place it.changes in
          let call = get_or segment.log it.place 0 in
          let placed = slice_get-get_or segment.log it.place 0 within in
          let (reply, answers) = answered it.place call placed in
          it.still_open it.place (omega arith)
          (subst (λ (p : Option Page). EndsLook start segment address p it.place) it.looks (each address it.place it.changes)) call reply placed answers

-- ---- what the columns of a tail say of a run

pub of_run : (before : Option Run) (tail : Tail) (placed sorted : List PlacedChange) → IsTailOf before tail → ArePlacedAs tail.changes.items placed
    → IsPermutation placed sorted → AreOfRun before sorted
of_run None tail placed sorted (none, no_index) are same = λ c has.
    not_in_nil (left_of c) (subst (λ (xs : List Left). Contains xs (left_of c)) (are.same ∙ none)
    (contains_map left_of placed c (Contains-permutation sorted placed c (IsPermutation-sym placed sorted same) has)))
of_run (Some run) tail placed sorted of_it are same = (
  of_it.orderly,
  λ address page.
      let one = left_sorted tail.changes.items placed are sorted same address page in
      let then = of_it.left address page in
      (λ it. then.0 (one.0 it), λ it. one.1 (then.1 it)),
)

-- ---- touches behind a run

module _ (start : Space) (segment : Recording) (earlier : List PlacedChange) (touch : Touch) where
  -- a right touch behind a run is right in its segment, or is answered by what was left
  parts_behind : (before : Option Run) → GoesOn before segment start → AreOfRun before earlier
      → IsRightBehind before start segment touch ↔ (IsRightTouch start segment touch ⊎ IsOfLeft start segment earlier touch)
  parts_behind None goes_on none = (
    λ right. inl right,
    λ it. elim it [ inl own ↦ own | inr left ↦ absurd (let at = left.2 in none at.change at.has) ],
  )
  parts_behind (Some run) (ends, same_layout) (orderly, left) = (
    λ right. subst (λ (s : Space). IsRightTouch s segment touch ⊎ IsOfLeft s segment earlier touch) (sym ends)
        (elim (right_parts run.start run.trace segment same_layout orderly touch right) [
          | inl own ↦ inl own
          | inr (page, none, it, answered) ↦ inr (page, none, (left touch.address page).1 it, answered)
        ]),
    λ it. right_both run.start run.trace segment same_layout orderly touch
        (elim (subst (λ (s : Space). IsRightTouch s segment touch ⊎ IsOfLeft s segment earlier touch) ends it) [
          | inl own ↦ inl own
          | inr (page, none, at, answered) ↦ inr (page, none, (left touch.address page).0 at, answered)
        ]),
  )

  -- what excuses a touch, by what was left or by what lingers
  excused_as : (Before Other : Type 0) → (Before → Other) → (Other → Before) → (begun : Space) (excuse : Excuse)
      → IsExcusedWith Before begun segment touch excuse → IsExcusedWith Other begun segment touch excuse
  excused_as Before Other there back begun excuses.None now = now
  excused_as Before Other there back begun excuses.Open (in_time, not_now, more) =
      (elim in_time [ inl own ↦ inl own | inr left ↦ inr (there left) ], not_now, more)
  excused_as Before Other there back begun excuses.Kept (in_time, not_now, more) =
      (elim in_time [ inl own ↦ inl own | inr left ↦ inr (there left) ], not_now, more)
  excused_as Before Other there back begun excuses.Lagging (lagging, late) =
      (lagging, (λ in_time. late (elim in_time [ inl own ↦ inl own | inr other ↦ inr (back other) ])))

  -- behind no run nothing was left
  excused_alone : (Before : Type 0) → (Before → ⊥) → (excuse : Excuse) → IsExcusedWith Before start segment touch excuse
      → IsExcusedBy 0 start segment touch excuse
  excused_alone Before none excuses.None now = now
  excused_alone Before none excuses.Open (in_time, not_now, more) = (elim in_time [ inl own ↦ own | inr left ↦ absurd (none left) ], not_now, more)
  excused_alone Before none excuses.Kept (in_time, not_now, more) =
      (elim in_time [ inl own ↦ own | inr left ↦ absurd (none left) ], not_now, more.0, more.1)
  excused_alone Before none excuses.Lagging (lagging, late) = (lagging, (λ in_time. late (inl in_time)))

  excused_behind : (before : Option Run) → GoesOn before segment start → AreOfRun before earlier → (excuse : Excuse)
      → IsExcusedWith (IsOfLeft start segment earlier touch) start segment touch excuse → IsExcusedBehind before start segment touch excuse
  excused_behind None goes_on none excuse is =
      excused_alone (IsOfLeft start segment earlier touch) (λ left. let at = left.2 in none at.change at.has) excuse is
  excused_behind (Some run) (ends, same_layout) (orderly, left) excuse is =
      let begun = space_from run.start run.trace run.trace.log in
      let own : IsExcusedWith (IsOfLeft begun segment earlier touch) begun segment touch excuse =
      subst (λ (s : Space). IsExcusedWith (IsOfLeft s segment earlier touch) s segment touch excuse) ends is in
      excused_both run.start run.trace segment same_layout orderly touch excuse
      (excused_as (IsOfLeft begun segment earlier touch) _
      (λ (page, none, at, answered). (page, none, (left touch.address page).0 at, answered))
      (λ (page, none, it, answered). (page, none, (left touch.address page).1 it, answered)) begun excuse own)

-- so of what a touch is compared with
module _ {joined : Joined} (b : Behind joined) (touch : Touch) where
  pub parts_of : IsRightBehind b.before b.start b.segment touch
      ↔ (IsRightTouch b.start b.segment touch ⊎ IsOfLeft b.start b.segment (left_in joined.earlier.items) touch)
  parts_of = parts_behind b.start b.segment (left_in joined.earlier.items) touch b.before b.goes_on b.earlier

  pub excused_of : (excuse : Excuse) → IsExcusedWith (IsOfLeft b.start b.segment (left_in joined.earlier.items) touch) b.start b.segment touch excuse
      → IsExcusedBehind b.before b.start b.segment touch excuse
  excused_of = excused_behind b.start b.segment (left_in joined.earlier.items) touch b.before b.goes_on b.earlier

-- ---- by the searches of a touch that finds a page, or none

module _ (touch : Touch) (finds : Bool)
    (told : (page : Option Page) → touch.answer ≡ allow_in_page touch.address touch.mode touch.access page → finds ≡ is_some page) where
  abbrev IsPastOf : List PlacedChange → Option Page → ℕ → ℕ → Type 0
  IsPastOf changes page event first = IsPast changes (λ c. Covers touch.address c × (ended_at (is_some page) c < event)) first

  past_of : (changes : List PlacedChange) (event first : ℕ) → IsPast changes (λ c. Covers touch.address c × (ended_at finds c < event)) first
      → (page : Option Page) → touch.answer ≡ allow_in_page touch.address touch.mode touch.access page → IsPastOf changes page event first
  past_of changes event first past page answered =
      subst (λ b. IsPast changes (λ c. Covers touch.address c × (ended_at b c < event)) first) (told page answered) past

  module _ (start : Space) (segment : Recording) (own earlier : List PlacedChange) (are : AreChanges start segment own) (fits : touch.made < 2 ^ 32)
      (first : ℕ) (past : IsPast own (λ c. Covers touch.address c × (ended_at finds c < touch.made)) first) where
    -- what was left answers the touch where its own segment ends nothing
    pub of_left : ((first ≡ 0) × IsAnsweredSo earlier touch) ↔ IsOfLeft start segment earlier touch
    of_left = (
      λ (zero_so, (page, at, answered)). (
        page,
        (λ place ends early.
            let less = ends_past start segment touch.address touch.made fits own are page first (past_of own touch.made first past page answered)
            place ends early in
            omega (arith, less, zero_so)),
        at,
        answered,
      ),
      λ (page, none, at, answered). (
        (let low = past_ends start segment touch.address touch.made fits own are page first (past_of own touch.made first past page answered) 0
            (λ place ends early. absurd (none place ends early)) in omega (arith, low)),
        (page, at, answered),
      ),
    )

  module _ (changes : List PlacedChange) (first : ℕ) (past : IsPast changes (λ c. Covers touch.address c × (ended_at finds c < 4294967295)) first) where
    pub between_so : IsAnsweredBetween changes (Covers touch.address) touch first 4294967295 → IsAnsweredSo changes touch
    between_so (c, has, covered, from, to, answered) = (
      page_before c.change,
      record {
        change = c;
        has = has;
        covers_it = covered;
        still_open = λ other there covers_it early.
            let less = (past_of changes 4294967295 first past (page_before c.change) answered).all other there (covers_it, early) in omega (arith, less, from);
        looks = refl;
      },
      answered,
    )

    pub so_between : ((c : PlacedChange) → Contains changes c → IsNumbered c) → IsAnsweredSo changes touch
        → IsAnsweredBetween changes (Covers touch.address) touch first 4294967295
    so_between numbered (page, at, answered) = (
      at.change,
      at.has,
      at.covers_it,
      (elim (past_of changes 4294967295 first past page answered).some [
        | inl zero_so ↦ omega (arith, zero_so)
        | inr (d, has, (covered, early), here) ↦ let less = at.still_open d has covered early in omega (arith, less, here)
      ]),
      (let few = (numbered at.change at.has).few in omega (arith, few)),
      answered ∙ ap (allow_in_page touch.address touch.mode touch.access) (sym at.looks),
    )
