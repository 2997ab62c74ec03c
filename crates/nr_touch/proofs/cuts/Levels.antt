-- The columns of what was left, level by level.
use Rattle.std.proofs.Common.{◌≡◌, ℕ, zero, suc, ◌+◌, ◌-◌, ◌<◌, ◌≤◌, ◌⊎◌, inl, inr, min, Bool, is_some, List, [], ◌∷◌, ◌++◌, length, map, get_or, slice_get, take}
use Rattle.std.proofs.Common.{Option, Some, Contains, refl, sym, ap, ◌∙◌, subst, arith}
use Rattle.std.specs.List.Sorted.{IsPermutation}
use Rattle.std.proofs.lemmas.List.{append-nil, append_assoc, length-append, length-map, length-take-le, map-append, take_all, take_more, take-append-le}
use Rattle.std.proofs.lemmas.List.Elements.{Contains-append_cases, Contains-append_left, Contains-append_right}
use Rattle.std.proofs.lemmas.List.Sorted.{length_permutation, Contains-permutation, IsPermutation-append, IsPermutation-refl, IsPermutation-sym}
use Rattle.std.proofs.lemmas.Option.{none-some, same_Some, slice_get_within, slice_get-get_or}
use Rattle.vs_types.specs.Step.{allow_in_page}
use Rattle.vs_types.specs.declared.addresses.page.Page.{Page}
use Rattle.vs_types.proofs.Lists.{get_left, get_right, not_in_nil}
use Rattle.nr_touch.specs.inside.Alike.{AreAlikeTo}
use Rattle.nr_touch.specs.inside.Changes.{ended_at}
use Rattle.nr_touch.specs.inside.Columns.{AreColumns, Covers, IsNumbered, IsPast}
use Rattle.nr_touch.specs.inside.Earlier.{IsAnsweredSo}
use Rattle.nr_touch.specs.inside.Levels.{left_in, left_of, AreLevels, ArePlacedAs, ArePlacedFrom, CoverStretches, IsLadder}
use Rattle.nr_touch.specs.inside.Sights.{IsAnsweredBetween}
use Rattle.nr_touch.specs.declared.changes.change.PlacedChange.{PlacedChange}
use Rattle.nr_touch.specs.declared.changes.history.History.{History}
use Rattle.nr_touch.specs.declared.touches.tail.Left.{Left}
use Rattle.nr_touch.specs.declared.touches.touch.Touch.{Touch}
use Rattle.nr_touch.proofs.Lefts.{in_got}
use Rattle.nr_touch.proofs.cuts.Placed.{among, both_placed}
use Rattle.nr_touch.proofs.cuts.Tails.{between_so, so_between}

-- ---- level by level

left_both : (front back : List History) → left_in (front ++ back) ≡ left_in front ++ left_in back
left_both [] back = refl
left_both (level ∷ front) back =
    ap (λ (xs : List PlacedChange). level.changes.items ++ xs) (left_both front back) ∙ sym (append_assoc level.changes.items (left_in front) (left_in back))

left_more : (levels : List History) (index : ℕ) (d : History) → index < length levels
    → left_in (take (index + 1) levels) ≡ left_in (take index levels) ++ (get_or levels index d).changes.items
left_more levels index d l =
    ap left_in (take_more levels index d l) ∙ left_both (take index levels) (get_or levels index d ∷ [])
    ∙ ap (λ (xs : List PlacedChange). left_in (take index levels) ++ xs) (append-nil (get_or levels index d).changes.items)

-- a level by its index
pub level_at : (levels : List History) (index : ℕ) (level : History) → index < length levels → level ≡ get_or levels index level
    → slice_get levels index ≡ Some level
level_at levels index level l is = slice_get-get_or levels index level l ∙ ap Some (sym is)

pub left_with : (levels : List History) (index : ℕ) (level : History) → index < length levels → level ≡ get_or levels index level
    → left_in (take (index + 1) levels) ≡ left_in (take index levels) ++ level.changes.items
left_with levels index level l is =
    left_more levels index level l ∙ ap (λ (h : History). left_in (take index levels) ++ h.changes.items) (sym is)

-- ---- the levels of changes are a ladder

-- changes with places that count up from one on
abbrev CountFrom : ℕ → List PlacedChange → Type 0
CountFrom start placed = (index : ℕ) (c : PlacedChange) → slice_get placed index ≡ Some c → c.place ≡ start + index

front_counts : (start : ℕ) (part rest : List PlacedChange) → CountFrom start (part ++ rest) → CountFrom start part
front_counts start part rest counts index c at =
    counts index c (get_left part rest index (slice_get_within part index c at) ∙ at)

back_counts : (start : ℕ) (part rest : List PlacedChange) → CountFrom start (part ++ rest) → CountFrom (start + length part) rest
back_counts start part rest counts index c at =
    let own = counts (length part + index) c (get_right part rest index ∙ at) in omega (arith, own)

pub levels_permuted : (placed : List PlacedChange) (levels : List History) → CoverStretches placed levels → IsPermutation placed (left_in levels)
levels_permuted placed [] none = subst (λ (xs : List PlacedChange). IsPermutation xs []) (sym none) (IsPermutation-refl [])
levels_permuted placed (level ∷ more) (part, rest, is, same, columns, cover) =
    subst (λ (xs : List PlacedChange). IsPermutation xs (level.changes.items ++ left_in more)) (sym is)
    (IsPermutation-append part level.changes.items rest (left_in more) same (levels_permuted rest more cover))

place_in : (start : ℕ) (placed : List PlacedChange) → CountFrom start placed → (c : PlacedChange) → Contains placed c
    → (start ≤ c.place) × (c.place < start + length placed)
place_in start placed counts c has =
    let (index, at) = in_got placed c has in
    let own = counts index c at in
    let within = slice_get_within placed index c at in
    (omega (arith, own), omega (arith, own, within))

-- a level is of a stretch of the changes, and the levels before it of those in front
stretch_at : (placed : List PlacedChange) (levels : List History) → CoverStretches placed levels → (index : ℕ) (level : History)
    → slice_get levels index ≡ Some level → (front part rest : List PlacedChange) × (placed ≡ front ++ (part ++ rest))
    × IsPermutation front (left_in (take index levels)) × IsPermutation part level.changes.items × AreColumns level
stretch_at placed [] none index level at = absurd (none-some level at)
stretch_at placed (own ∷ more) (part, rest, is, same, columns, cover) zero level at =
    let mine = subst (λ (h : History). IsPermutation part h.changes.items) (same_Some own level at) same in
    ([], part, rest, is, IsPermutation-refl [], mine, subst AreColumns (same_Some own level at) columns)
stretch_at placed (own ∷ more) (part, rest, is, same, columns, cover) (suc index) level at =
    let (front, here, behind, rest_is, before, mine, ordered) = stretch_at rest more cover index level at in
    let whole = is ∙ ap (λ (xs : List PlacedChange). part ++ xs) rest_is ∙ sym (append_assoc part front (here ++ behind)) in
    let all = IsPermutation-append part own.changes.items front (left_in (take index more)) same before in
    (part ++ front, here, behind, whole, all, mine, ordered)

numbered_of : (placed : List PlacedChange) (levels : List History) → CoverStretches placed levels → (c : PlacedChange) → Contains (left_in levels) c
    → IsNumbered c
numbered_of placed [] none c has = absurd (not_in_nil c has)
numbered_of placed (level ∷ more) (part, rest, is, same, columns, cover) c has = elim (Contains-append_cases level.changes.items (left_in more) c has) [
  | inl own ↦ columns.numbered c own
  | inr later ↦ numbered_of rest more cover c later
]

pub ladder : (changes : List Left) (levels : List History) → AreLevels changes levels → IsLadder levels
ladder changes levels are = record {
  numbered = numbered_of are.placed levels are.cover;
  each = λ index level at. let (front, part, rest, is, before, here, columns) = stretch_at are.placed levels are.cover index level at in columns;
  rise = λ index level at c d has_c has_d.
      let (front, part, rest, is, before, here, columns) = stretch_at are.placed levels are.cover index level at in
      let counts = subst (CountFrom 0) is are.are.places in
      let up = place_in 0 front (front_counts 0 front (part ++ rest) counts) c
      (Contains-permutation (left_in (take index levels)) front c (IsPermutation-sym front (left_in (take index levels)) before) has_c) in
      let low = place_in (0 + length front) part (front_counts (0 + length front) part rest (back_counts 0 front (part ++ rest) counts)) d
      (Contains-permutation level.changes.items part d (IsPermutation-sym part level.changes.items here) has_d) in
      omega (arith, up.1, low.0);
}

-- ---- one level more, and one less

pub cover_more : (front part : List PlacedChange) (levels : List History) (level : History) → CoverStretches front levels
    → IsPermutation part level.changes.items → AreColumns level → CoverStretches (front ++ part) (levels ++ level ∷ [])
cover_more front part [] level none same columns =
    (part, [], ap (λ (xs : List PlacedChange). xs ++ part) none ∙ sym (append-nil part), same, columns, refl)
cover_more front part (own ∷ more) level (first, rest, is, of_own, columns_own, cover) same columns = (
  first,
  rest ++ part,
  ap (λ (xs : List PlacedChange). xs ++ part) is ∙ append_assoc first rest part,
  of_own,
  columns_own,
  cover_more rest part more level cover same columns,
)

abbrev CoverLess : List PlacedChange → List History → History → Type 0
CoverLess placed levels level = (front part : List PlacedChange) × (placed ≡ front ++ part) × (length part ≡ length level.changes.items)
    × CoverStretches front levels

cover_less : (placed : List PlacedChange) (levels : List History) (level : History) → CoverStretches placed (levels ++ level ∷ [])
    → CoverLess placed levels level
cover_less placed [] level (part, rest, is, same, columns, none) =
    ([], part, is ∙ ap (λ (xs : List PlacedChange). part ++ xs) none ∙ append-nil part, sym (length_permutation part level.changes.items same), refl)
cover_less placed (own ∷ more) level (first, rest, is, same, columns, cover) =
    let (front, part, rest_is, many, before) = cover_less rest more level cover in (
      first ++ front,
      part,
      is ∙ ap (λ (xs : List PlacedChange). first ++ xs) rest_is ∙ sym (append_assoc first front part),
      many,
      (first, front, refl, same, columns, before),
    )

many_placed : (start : ℕ) (changes : List Left) (placed : List PlacedChange) → ArePlacedFrom start changes placed → length placed ≡ length changes
many_placed start changes placed are = sym (length-map placed left_of) ∙ ap length are.same

-- ---- the levels of changes

pub no_levels : AreLevels [] []
no_levels = record { placed = []; are = record { same = refl; places = λ index c at. absurd (none-some c at) }; cover = refl }

pub level_of : (changes : List Left) (placed : List PlacedChange) (level : History) → ArePlacedAs changes placed
    → IsPermutation placed level.changes.items → AreColumns level → AreLevels changes (level ∷ [])
level_of changes placed level are same columns =
    record { placed = placed; are = are; cover = (placed, [], sym (append-nil placed), same, columns, refl) }

-- changes more, in a level of their own
pub levels_more : (front back : List Left) (levels : List History) (placed : List PlacedChange) (level : History) → AreLevels front levels
    → ArePlacedFrom (length front) back placed → IsPermutation placed level.changes.items → AreColumns level
    → AreLevels (front ++ back) (levels ++ level ∷ [])
levels_more front back levels placed level are behind same columns = record {
  placed = are.placed ++ placed;
  are = both_placed 0 front back are.placed placed are.are
      (subst (λ (n : ℕ). ArePlacedFrom n back placed) (let many = many_placed 0 front are.placed are.are in omega (arith, many)) behind);
  cover = cover_more are.placed placed levels level are.cover same columns;
}

abbrev LevelsLess : List Left → List History → History → Type 0
LevelsLess changes levels level =
    (length level.changes.items ≤ length changes) × AreLevels (take (length changes - length level.changes.items) changes) levels

levels_less : (changes : List Left) (levels : List History) (level : History) → AreLevels changes (levels ++ level ∷ []) → LevelsLess changes levels level
levels_less changes levels level are =
    let (front, part, is, many, before) = cover_less are.placed levels level are.cover in
    let all = many_placed 0 changes are.placed are.are in
    let both : length are.placed ≡ length front + length part = ap length is ∙ length-append front part in
    let lefts : length (map left_of front) ≡ length front = length-map front left_of in
    let parts : map left_of front ++ map left_of part ≡ changes = sym (ap (map left_of) is ∙ map-append left_of front part) ∙ are.are.same in
    let end : length changes - length level.changes.items ≡ length front = omega (arith, all, both, many) in (
      omega (arith, all, both, many),
      record {
        placed = front;
        are = record {
          same =
              sym (ap (λ n. take n changes) end ∙ ap (take (length front)) (sym parts)
              ∙ take-append-le (length front) (map left_of front) (map left_of part) (omega (arith, lefts))
              ∙ take_all (length front) (map left_of front) (omega (arith, lefts)));
          places = front_counts 0 front part (subst (CountFrom 0) is are.are.places);
        };
        cover = before;
      },
    )

take_twice : {X : Type 0} (n m : ℕ) (xs : List X) → n ≤ m → m ≤ length xs → take n (take m xs) ≡ take n xs
take_twice zero m [] l k = refl
take_twice zero zero (x ∷ xs) l k = refl
take_twice zero (suc m) (x ∷ xs) l k = refl
take_twice (suc n) zero xs l k = absurd (omega (arith, l))
take_twice (suc n) (suc m) [] l k = absurd (omega (arith, k))
take_twice (suc n) (suc m) (x ∷ xs) l k = ap (λ ys. x ∷ ys) (take_twice n m xs (omega (arith, l)) (omega (arith, k)))

-- of the first levels the last one is left out
pub levels_back : (changes : List Left) (levels : List History) (start index : ℕ) (d : History) → index < length levels → start ≤ length changes
    → AreLevels (take start changes) (take (index + 1) levels)
    → (length (get_or levels index d).changes.items ≤ start)
    × AreLevels (take (start - length (get_or levels index d).changes.items) changes) (take index levels)
levels_back changes levels start index d l within are =
    let many = length-take-le start changes within in
    let (low, less) = levels_less (take start changes) (take index levels) (get_or levels index d)
    (subst (AreLevels (take start changes)) (take_more levels index d l) are) in (
      omega (arith, many, low),
      subst (λ (xs : List Left). AreLevels xs (take index levels))
          (ap (λ n. take (n - length (get_or levels index d).changes.items) (take start changes)) many
          ∙ take_twice (start - length (get_or levels index d).changes.items) start changes (omega arith) within) less,
    )

-- ---- searches with one level more

pub alike_more : (front rows : List PlacedChange) (address first then last : ℕ) → AreAlikeTo front address first → AreAlikeTo rows address then
    → last ≡ min first then → AreAlikeTo (front ++ rows) address last
alike_more front rows address first then last one other is = record {
  up = let low = one.up in let up = other.up in omega (arith, low, up, is);
  alike = λ b low high c has. elim (Contains-append_cases front rows c has) [
    | inl before ↦ one.alike b low (omega (arith, high, is)) c before
    | inr behind ↦ other.alike b low (omega (arith, high, is)) c behind
  ];
}

module _ (front rows : List PlacedChange) (rise : (c d : PlacedChange) → Contains front c → Contains rows d → c.place < d.place) (touch : Touch) (finds : Bool)
    (told : (page : Option Page) → touch.answer ≡ allow_in_page touch.address touch.mode touch.access page → finds ≡ is_some page) (first : ℕ)
    (past : IsPast rows (λ c. Covers touch.address c × (ended_at finds c < 4294967295)) first)
    (numbered : (c : PlacedChange) → Contains rows c → IsNumbered c) where
  abbrev AnsweredParts : Type 0
  AnsweredParts = IsAnsweredBetween rows (Covers touch.address) touch first 4294967295 ⊎ ((first ≡ 0) × IsAnsweredSo front touch)

  pub answered_parts : IsAnsweredSo (front ++ rows) touch → AnsweredParts
  answered_parts (page, at, answered) = elim (Contains-append_cases front rows at.change at.has) [
    | inl before ↦ inr (
      (elim past.some [
        | inl zero_so ↦ zero_so
        | inr (d, has, (covered, early), here) ↦
            let less = at.still_open d (Contains-append_right front rows d has) covered
            (subst (λ b. ended_at b d < 4294967295) (told page answered) early) in
            let up = rise at.change d before has in
            absurd (omega (arith, less, up))
      ]),
      (page, among touch.address page (front ++ rows) front at before (λ other has. at.still_open other (Contains-append_left front rows other has)), answered),
    )
    | inr own ↦ inl (so_between touch finds told rows first past numbered
        (page, among touch.address page (front ++ rows) rows at own (λ other has. at.still_open other (Contains-append_right front rows other has)), answered))
  ]

  pub answered_by : AnsweredParts → IsAnsweredSo (front ++ rows) touch
  answered_by (inl between) =
      let (page, at, answered) = between_so touch finds told rows first past between in
      let whole = among touch.address page rows (front ++ rows) at (Contains-append_right front rows at.change at.has) (λ other has covered early.
      elim (Contains-append_cases front rows other has) [
        | inl before ↦ rise other at.change before at.has
        | inr own ↦ at.still_open other own covered early
      ]) in
      (page, whole, answered)
  answered_by (inr (none, (page, at, answered))) =
      let whole = among touch.address page front (front ++ rows) at (Contains-append_left front rows at.change at.has) (λ other has covered early.
      elim (Contains-append_cases front rows other has) [
        | inl before ↦ at.still_open other before covered early
        | inr own ↦
            let less = past.all other own (covered, subst (λ b. ended_at b other < 4294967295) (sym (told page answered)) early) in
            absurd (omega (arith, less, none))
      ]) in
      (page, whole, answered)
