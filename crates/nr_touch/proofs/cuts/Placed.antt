-- The looks that changes with places leave, and those that linger behind a run.
use Rattle.std.proofs.Common.{◌≡◌, ◌↔◌, ℕ, zero, suc, ◌+◌, ◌-◌, ◌<◌, ◌≤◌, ◌^◌, ◌⊎◌, inl, inr, Bool, true, false, cond, nat_lt, is_some, List, [], ◌∷◌, ◌++◌, length, map, get_or, slice_get}
use Rattle.std.proofs.Common.{take, drop, Option, Some, option_map, Contains, IsTrue, refl, sym, ap, ◌∙◌, subst, arith}
use Rattle.std.specs.List.Sorted.{IsNonDecreasingBy, IsPermutation}
use Rattle.std.proofs.lemmas.Bool.{cases_Bool, cases_lt, false≢true}
use Rattle.std.proofs.lemmas.List.{get_or-drop, length-drop, length-map, length-take-le, map-append, take_more}
use Rattle.std.proofs.lemmas.List.Elements.{Contains-push_cases}
use Rattle.std.proofs.lemmas.List.Sorted.{IsNonDecreasingBy-drop, IsPermutation-sym, Contains-permutation}
use Rattle.std.proofs.lemmas.Option.{none-some, same_Some, slice_get-map, slice_get_within, slice_get-get_or, get_or_from_slice_get}
use Rattle.vs_types.specs.Page.{covers}
use Rattle.vs_types.specs.Space.{Space}
use Rattle.vs_types.specs.declared.addresses.page.Page.{Page}
use Rattle.vs_types.proofs.Lists.{get_left, get_right, not_in_nil, Contains-cases, Contains-head, Contains-tail}
use Rattle.nr_trace.specs.Recording.{Recording}
use Rattle.nr_trace.proofs.LawsOfCalls.{answers_within}
use Rattle.nr_trace.proofs.Lists.{split_at}
use Rattle.nr_touch.specs.Tails.{ends_look, HasNoEnd, IsLeft, IsNeverAnswered, IsSoundLeft, Lingers}
use Rattle.nr_touch.specs.Touches.{page_after, EndsLook, IsAnsweredBefore}
use Rattle.nr_touch.specs.inside.Changes.{ended_at, page_before, AreChanges}
use Rattle.nr_touch.specs.inside.Columns.{Covers, IsNumbered}
use Rattle.nr_touch.specs.inside.Earlier.{IsLeftAt}
use Rattle.nr_touch.specs.inside.Lefts.{IsHiddenBy}
use Rattle.nr_touch.specs.inside.Levels.{left_of, placed_at, ArePlacedAs, ArePlacedFrom}
use Rattle.nr_touch.specs.declared.changes.change.PlacedChange.{PlacedChange}
use Rattle.nr_touch.specs.declared.touches.tail.Left.{Left}
use Rattle.nr_touch.proofs.Lefts.{in_got}
use Rattle.nr_touch.proofs.Sighted.{contains_map, map_contains}
use Rattle.nr_touch.proofs.cuts.Ended.{change_within, ended_before, ends_all, ends_at, listed_before}
use Rattle.nr_touch.proofs.cuts.Lefts.{IsHiddenIn}

-- ---- by the order of the list, and by places

abbrev pub AreRising : List PlacedChange → Type 0
AreRising changes = IsNonDecreasingBy (λ (c : PlacedChange). c.place) changes

module _ (address : ℕ) (page : Option Page) where
  abbrev pub IsEnded : PlacedChange → Type 0
  IsEnded c = ended_at (is_some page) c < 4294967295

  -- changes of one place that have the address end its look together
  abbrev pub AreAlike : List PlacedChange → Type 0
  AreAlike changes = (c d : PlacedChange) → Contains changes c → Contains changes d → Covers address c → Covers address d → c.place ≡ d.place
      → IsEnded c → IsEnded d

  least_first : (x : PlacedChange) (rest : List PlacedChange) → AreRising (x ∷ rest) → (c : PlacedChange) → Contains (x ∷ rest) c → x.place ≤ c.place
  least_first x rest rises c (k, l, is) =
      let up = rises 0 k c (omega arith) l in
      let at : (get_or (x ∷ rest) k c).place ≡ c.place = ap (λ (d : PlacedChange). d.place) is in
      omega (arith, up, at)

  not_ended : (c : PlacedChange) → (IsEnded c → ⊥) → ends_look (left_of c) page ≡ false
  not_ended c never = elim (cases_Bool (ends_look (left_of c) page)) [
    | inl ends ↦ absurd (never ((ends_at c page).0 ends))
    | inr fine ↦ fine
  ]

  ended_not : (c : PlacedChange) → ends_look (left_of c) page ≡ false → IsEnded c → ⊥
  ended_not c fine early = false≢true (sym fine ∙ (ends_at c page).1 early)

  -- what is left by a change among some is left by it among others, where none of these ends it
  pub among : (xs ys : List PlacedChange) (at : IsLeftAt xs address page) → Contains ys at.change
      → ((other : PlacedChange) → Contains ys other → Covers address other → IsEnded other → other.place < at.change.place) → IsLeftAt ys address page
  among xs ys at has still = record { change = at.change; has = has; covers_it = at.covers_it; still_open = still; looks = at.looks }

  pub left_at : (changes : List PlacedChange) → AreRising changes → AreAlike changes → IsLeft (map left_of changes) address page
      → IsLeftAt changes address page
  left_at [] rises alike it = absurd it
  left_at (x ∷ rest) rises alike (inl (covered, open_so, none, looks)) = record {
    change = x;
    has = Contains-head x rest;
    covers_it = covered;
    still_open = λ other has there early. absurd (elim (Contains-cases x rest other has) [
      | inl same ↦ ended_not x open_so (subst IsEnded (sym same) early)
      | inr behind ↦ ended_not other (none (left_of other) (contains_map left_of rest other behind) there) early
    ]);
    looks = looks;
  }
  left_at (x ∷ rest) rises alike (inr more) = behind (left_at rest (IsNonDecreasingBy-drop (λ (c : PlacedChange). c.place) 1 (x ∷ rest) rises)
      (λ c d has_c has_d. alike c d (Contains-tail x rest c has_c) (Contains-tail x rest d has_d)) more) where
        behind : IsLeftAt rest address page → IsLeftAt (x ∷ rest) address page
        behind it = among rest (x ∷ rest) it (Contains-tail x rest it.change it.has) (λ other has there early. elim (Contains-cases x rest other has) [
          | inl same ↦ elim (cases_lt other.place it.change.place) [
            | inl less ↦ less
            | inr past ↦
                let up = least_first x rest rises it.change (Contains-tail x rest it.change it.has) in
                let at : x.place ≡ other.place = ap (λ (c : PlacedChange). c.place) same in
                let too = alike other it.change has (Contains-tail x rest it.change it.has) there it.covers_it (omega (arith, up, past, at)) early in
                let less = it.still_open it.change it.has it.covers_it too in
                absurd (omega (arith, less))
          ]
          | inr later ↦ it.still_open other later there early
        ])

  pub at_left : (changes : List PlacedChange) → AreRising changes → IsLeftAt changes address page → IsLeft (map left_of changes) address page
  at_left [] rises it = absurd (not_in_nil it.change it.has)
  at_left (x ∷ rest) rises it = by (Contains-cases x rest it.change it.has)
      (at_left rest (IsNonDecreasingBy-drop (λ (c : PlacedChange). c.place) 1 (x ∷ rest) rises)) where
        fine : x ≡ it.change → (other : PlacedChange) → Contains (x ∷ rest) other → Covers address other → ends_look (left_of other) page ≡ false
        fine same other has there = not_ended other (λ early.
            let less = it.still_open other has there early in
            let up = least_first x rest rises other has in
            let at : x.place ≡ it.change.place = ap (λ (c : PlacedChange). c.place) same in
            omega (arith, less, up, at))

        by : (x ≡ it.change) ⊎ Contains rest it.change → (IsLeftAt rest address page → IsLeft (map left_of rest) address page)
            → IsLeft (map left_of (x ∷ rest)) address page
        by (inl same) more =
            let own : Covers address x = subst (Covers address) (sym same) it.covers_it in
            inl (
              own,
              fine same x (Contains-head x rest) own,
              (λ left has there.
                  let (c, has_c, is) = map_contains left_of rest left has in
                  subst (λ (l : Left). ends_look l page ≡ false) is
                  (fine same c (Contains-tail x rest c has_c) (subst (λ (l : Left). IsTrue (covers l.change.page address)) (sym is) there))),
              ap (λ (c : PlacedChange). page_before c.change) same ∙ it.looks,
            )
        by (inr behind) more = inr (more (among (x ∷ rest) rest it behind (λ other has. it.still_open other (Contains-tail x rest other has))))

  pub left_permuted : (xs ys : List PlacedChange) → IsPermutation xs ys → IsLeftAt xs address page → IsLeftAt ys address page
  left_permuted xs ys same it = among xs ys it (Contains-permutation xs ys it.change same it.has)
      (λ other has. it.still_open other (Contains-permutation ys xs other (IsPermutation-sym xs ys same) has))

-- ---- what a segment leaves

module _ (start : Space) (segment : Recording) (own : List PlacedChange) (are : AreChanges start segment own) (rises : AreRising own)
    (few : length segment.events < 4294967295) (address : ℕ) (page : Option Page) where
  fits : 4294967295 < 2 ^ 32
  fits = omega arith

  -- an update without a reply ends nothing
  never : (place : ℕ) → IsNeverAnswered segment place → IsAnsweredBefore segment place 4294967295 → ⊥
  never place none (call, placed, (reply, before, answers)) = none call reply placed answers

  -- a look ends nowhere from a place on just if no listed change from there on ends it
  open_from : (from : ℕ) → ((c : PlacedChange) → Contains own c → Covers address c → IsEnded address page c → c.place < from)
      → (place : ℕ) → from ≤ place → EndsLook start segment address page place → IsNeverAnswered segment place
  open_from from all place low ends call reply placed answers =
      let within = answers_within segment reply call answers in
      let (c, has, covered, early, at) = listed_before start segment address 4294967295 fits own are page place ends
      (call, placed, (reply, omega (arith, within, few), answers)) in
      let less = all c has covered early in
      omega (arith, less, at, low)

  from_open : (from : ℕ) → ((place : ℕ) → from ≤ place → EndsLook start segment address page place → IsNeverAnswered segment place)
      → (c : PlacedChange) → Contains own c → Covers address c → IsEnded address page c → c.place < from
  from_open from since c has covered early = elim (cases_lt c.place from) [
    | inl less ↦ less
    | inr past ↦
        let (ends, answered) = (ended_before start segment address 4294967295 fits c page (are.each c has).0 covered).0 early in
        absurd (never c.place (since c.place past ends) answered)
  ]

  alike : AreAlike address page own
  alike c d has_c has_d covered there same early =
      let it = (ended_before start segment address 4294967295 fits c page (are.each c has_c).0 covered).0 early in
      (ended_before start segment address 4294967295 fits d page (are.each d has_d).0 there).1
      (subst (λ p. EndsLook start segment address page p × IsAnsweredBefore segment p 4294967295) same it)

  pub left_lingers : IsLeft (map left_of own) address page ↔ Lingers start segment address page
  left_lingers = (
    λ left.
        let it = left_at address page own rises alike left in
        let known = (are.each it.change it.has).0 in
        record {
          place = it.change.place;
          changes = known.differs address it.covers_it;
          still_open = open_from it.change.place it.still_open;
          looks = known.was address it.covers_it ∙ it.looks;
        },
    λ it.
        let (c, has, at, covered) = are.all it.place address (change_within start segment address it.place it.changes) it.changes in
        at_left address page own rises (record {
          change = c;
          has = has;
          covers_it = covered;
          still_open = λ other has_other there early. let less = from_open it.place it.still_open other has_other there early in omega (arith, less, at);
          looks = sym ((are.each c has).0.was address covered) ∙ ap (page_after start segment address) at ∙ it.looks;
        }),
  )

  pub no_end : HasNoEnd (map left_of own) address page ↔ ((place : ℕ) → EndsLook start segment address page place → IsNeverAnswered segment place)
  no_end = (
    λ none place ends. open_from 0 (λ c has covered early.
        absurd (ended_not address page c (none (left_of c) (contains_map left_of own c has) covered) early)) place (omega arith) ends,
    λ none left has there.
        let (c, has_c, is) = map_contains left_of own left has in
        subst (λ (l : Left). ends_look l page ≡ false) is (not_ended address page c (λ early.
        let less = from_open 0 (λ place low. none place) c has_c (subst (λ (l : Left). IsTrue (covers l.change.page address)) (sym is) there) early in
        omega (arith, less))),
  )

-- ---- what was left, each with its place among the others

pub left_placed : (place : ℕ) (left : Left) → left_of (placed_at place left) ≡ left
left_placed place left = λ i. record { change = left.change; over = same left.over i } where
  same : (over : Bool) → nat_lt (cond over 0 4294967295) 4294967295 ≡ over
  same true = refl
  same false = refl

pub record ArePlacedTo (start : ℕ) (changes : List Left) (placed : List PlacedChange) (end : ℕ) : Type 0 where
  pub are : ArePlacedFrom start (take end changes) placed
  pub numbered : (c : PlacedChange) → Contains placed c → IsNumbered c

pub none_placed : (start : ℕ) (changes : List Left) (placed : List PlacedChange) → placed ≡ [] → ArePlacedTo start changes placed 0
none_placed start changes placed is = record {
  are = record {
    same = ap (map left_of) is;
    places = λ place c at. absurd (none-some c (sym (ap (λ (xs : List PlacedChange). slice_get xs place) is) ∙ at));
  };
  numbered = λ c has. absurd (not_in_nil c (subst (λ (xs : List PlacedChange). Contains xs c) is has));
}

-- one list behind another
pub both_placed : (start : ℕ) (front back : List Left) (first then : List PlacedChange) → ArePlacedFrom start front first
    → ArePlacedFrom (start + length first) back then → ArePlacedFrom start (front ++ back) (first ++ then)
both_placed start front back first then are behind = record {
  same = map-append left_of first then ∙ (λ i. are.same i ++ behind.same i);
  places = λ place c at. elim (split_at (length first) place) [
    | inl less ↦ are.places place c (sym (get_left first then place less) ∙ at)
    | inr (k, e) ↦
        let own = behind.places k c (sym (get_right first then k) ∙ ap (slice_get (first ++ then)) (sym e) ∙ at) in
        omega (arith, own, e)
  ];
}

pub one_placed : (start : ℕ) (changes : List Left) (placed : List PlacedChange) (end : ℕ) (d : Left) → end < length changes
    → IsSoundLeft (get_or changes end d) → start + end + 1 < 2 ^ 32 → ArePlacedTo start changes placed end
    → ArePlacedTo start changes (placed ++ placed_at (start + end) (get_or changes end d) ∷ []) (end + 1)
one_placed start changes placed end d l sound few so = record {
  are = subst (λ (xs : List Left). ArePlacedFrom start xs (placed ++ new ∷ [])) (sym (take_more changes end d l))
      (both_placed start (take end changes) (get_or changes end d ∷ []) placed (new ∷ []) so.are (record {
        same = ap (λ (left : Left). left ∷ []) (left_placed (start + end) (get_or changes end d));
        places = λ index c at. own index c at;
      }));
  numbered = λ c has. elim (Contains-push_cases placed new c has) [
    | inl old ↦ so.numbered c old
    | inr same ↦ subst IsNumbered same
        (record { number = refl; aligned = sound.aligned; ends = sound.ends; frame = sound.frame; low = sound.low; few = few })
  ];
} where
  new : PlacedChange
  new = placed_at (start + end) (get_or changes end d)

  many : length placed ≡ end
  many = sym (length-map placed left_of) ∙ ap length so.are.same ∙ length-take-le end changes (omega (arith, l))

  own : (index : ℕ) (c : PlacedChange) → slice_get (new ∷ []) index ≡ Some c → c.place ≡ start + length placed + index
  own zero c at = let here : c.place ≡ start + end = ap (λ (x : PlacedChange). x.place) (sym (same_Some new c at)) in omega (arith, here, many)
  own (suc index) c at = absurd (none-some c at)

pub places_rise : (start : ℕ) (changes : List Left) (placed : List PlacedChange) → ArePlacedFrom start changes placed → AreRising placed
places_rise start changes placed are i j d low l =
    let first = are.places i (get_or placed i d) (slice_get-get_or placed i d (omega (arith, low, l))) in
    let then = are.places j (get_or placed j d) (slice_get-get_or placed j d l) in
    omega (arith, first, then, low)

module _ (changes : List Left) (placed : List PlacedChange) (are : ArePlacedAs changes placed) where
  one_of_place : (c d : PlacedChange) → Contains placed c → Contains placed d → c.place ≡ d.place → c ≡ d
  one_of_place c d has_c has_d same =
      let (i, at) = in_got placed c has_c in
      let (j, there) = in_got placed d has_d in
      let first = are.places i c at in
      let then = are.places j d there in
      let one : i ≡ j = omega (arith, first, then, same) in
      same_Some c d (sym at ∙ ap (slice_get placed) one ∙ there)

  module _ (sorted : List PlacedChange) (same : IsPermutation placed sorted) where
    -- by the sorted changes the same looks are left
    pub left_sorted : (address : ℕ) (page : Option Page) → IsLeftAt sorted address page ↔ IsLeft changes address page
    left_sorted address page = (
      λ it. subst (λ (xs : List Left). IsLeft xs address page) are.same
          (at_left address page placed (places_rise 0 changes placed are) (left_permuted address page sorted placed (IsPermutation-sym placed sorted same) it)),
      λ it. left_permuted address page placed sorted same
          (left_at address page placed (places_rise 0 changes placed are)
          (λ c d has_c has_d covered there at. subst (IsEnded address page) (one_of_place c d has_c has_d at))
          (subst (λ (xs : List Left). IsLeft xs address page) (sym are.same) it)),
    )

    -- what a later one hides
    pub hidden_in : (left : Left) (place : ℕ) → IsHiddenBy sorted left place → IsHiddenIn (drop (place + 1) changes) left
    hidden_in left place hidden = record {
      by = left_of hidden.by;
      has = (
        at.0 - (place + 1),
        (let many = length-drop (place + 1) changes in omega (arith, many, within, later)),
        (let index : (place + 1) + (at.0 - (place + 1)) ≡ at.0 = omega (arith, later) in
            get_or-drop (place + 1) changes (at.0 - (place + 1)) (left_of hidden.by) ∙ ap (λ n. get_or changes n (left_of hidden.by)) index
            ∙ get_or_from_slice_get changes at.0 (left_of hidden.by) (left_of hidden.by) there),
      );
      own = all.0;
      ends = all.1;
      covers_all = hidden.covers_all;
    } where
      at : (k : ℕ) × (slice_get placed k ≡ Some hidden.by)
      at = in_got placed hidden.by (Contains-permutation sorted placed hidden.by (IsPermutation-sym placed sorted same) hidden.has)

      there : slice_get changes at.0 ≡ Some (left_of hidden.by)
      there = ap (λ (xs : List Left). slice_get xs at.0) (sym are.same) ∙ slice_get-map left_of placed at.0 ∙ ap (option_map left_of) at.1

      within : at.0 < length changes
      within = slice_get_within changes at.0 (left_of hidden.by) there

      later : place < at.0
      later = let index = are.places at.0 hidden.by at.1 in let l = hidden.later in omega (arith, index, l)

      all : (ends_look (left_of hidden.by) (page_before left.change) ≡ true)
          × ((page : Option Page) → ends_look left page ≡ true → ends_look (left_of hidden.by) page ≡ true)
      all = ends_all hidden.by left hidden.ends
