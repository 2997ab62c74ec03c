-- A list of changes without those that say nothing more.
use Rattle.std.proofs.Common.{◌≡◌, ◌↔◌, ℕ, ◌+◌, ◌-◌, ◌%◌, ◌<◌, ◌≤◌, ◌⊎◌, ◌||◌, inl, inr, Bool, true, false, cond, List, [], ◌∷◌, ◌++◌, length, map, get_or, drop, take}
use Rattle.std.proofs.Common.{Option, Contains, IsTrue, BTreeSet, nat_cmp, refl, sym, ap, ◌∙◌, subst, arith}
use Rattle.std.specs.BTreeMap.{is_at}
use Rattle.std.specs.BTreeSet.{contains, Updates}
use Rattle.std.proofs.lemmas.Bool.{cases_lt, false≢true}
use Rattle.std.proofs.lemmas.List.{append-nil, append_assoc, drop_all, drop_more, length-append, length-take-le, take-append-drop}
use Rattle.std.proofs.lemmas.List.Elements.{Contains-append_cases, Contains-append_left, Contains-append_right, Contains-push_cases}
use Rattle.vs_types.specs.Page.{bytes_of, level_of}
use Rattle.vs_types.specs.declared.addresses.page.Page.{Page}
use Rattle.vs_types.specs.declared.addresses.page.Size.{Size}
use Rattle.vs_types.specs.declared.addresses.page.Size.TheVariants.{K4, M2, G1}
use Rattle.vs_types.proofs.Lists.{not_in_nil}
use Rattle.vs_types.proofs.Pages.{covers_means}
use Rattle.nr_touch.specs.Tails.{ends_look, AreSound, HasNoEnd, IsLeft, IsSoundLeft}
use Rattle.nr_touch.specs.inside.Changes.{ended_at, number_at, number_of, page_before}
use Rattle.nr_touch.specs.inside.Columns.{IsNumbered, IsOf, IsPast}
use Rattle.nr_touch.specs.inside.Lefts.{AreNoted, IsFarFrom, IsHiddenBy, KeepEnds, KeepLooks}
use Rattle.nr_touch.specs.inside.Levels.{left_of}
use Rattle.nr_touch.specs.declared.changes.change.PlacedChange.{PlacedChange}
use Rattle.nr_touch.specs.declared.touches.tail.Left.{Left}
use Rattle.nr_touch.proofs.Sighted.{map_contains}
use Rattle.nr_touch.proofs.Sizes.{covered_numbered}
use Rattle.nr_touch.proofs.cuts.Lefts.{behind_others, one_less, SaysNothing}

-- ---- a later change that has all addresses of a change, by its number

-- all addresses of a page lie in one page of a size that is no smaller
same_number : (own size : Size) (base a : ℕ) → base % bytes_of own ≡ 0 → level_of own ≤ level_of size → base ≤ a → a < base + bytes_of own
    → number_at base size ≡ number_at a size
same_number K4 K4 base a aligned l low high = omega (arith, aligned, low, high)
same_number K4 M2 base a aligned l low high = omega (arith, aligned, low, high)
same_number K4 G1 base a aligned l low high = omega (arith, aligned, low, high)
same_number M2 M2 base a aligned l low high = omega (arith, aligned, low, high)
same_number M2 G1 base a aligned l low high = omega (arith, aligned, low, high)
same_number G1 G1 base a aligned l low high = omega (arith, aligned, low, high)
same_number _ _ base a aligned l low high = absurd (omega (arith, l))

pub hidden_by : (changes : List PlacedChange) (left : Left) (place : ℕ) (size : Size) (count : ℕ)
    → ((c : PlacedChange) → Contains changes c → IsNumbered c) → IsSoundLeft left → level_of left.change.page.size ≤ level_of size
    → IsPast changes (λ c. IsOf (number_at left.change.page.base size) c
    × (ended_at (left.change.was_mapped || left.change.takes) c < 4294967295)) count → place + 1 < count
    → IsHiddenBy changes left place
hidden_by changes left place size count numbered sound l past more = elim past.some [
  | inl none ↦ absurd (omega (arith, none, more))
  | inr (c, has, (of, early), at) ↦ record {
    by = c;
    has = has;
    ends = early;
    later = omega (arith, more, at);
    covers_all = λ address covered.
        let within = (covers_means left.change.page address).0 covered in
        covered_numbered c address size (numbered c has)
        (of ∙ same_number left.change.page.size size left.change.page.base address sound.aligned l within.0 within.1);
  }
]

-- ---- changes that are far from those whose numbers are noted

-- where two pages have an address in common, the number of the second lies in the first, or is that of a larger page that has it
shared_number : (own other : Size) (base b a : ℕ) → base % bytes_of own ≡ 0 → b % bytes_of other ≡ 0 → base ≤ a → a < base + bytes_of own → b ≤ a
    → a < b + bytes_of other → ((base ≤ b + level_of other) × (b + level_of other ≤ base + (bytes_of own - 1)))
    ⊎ ((b + level_of other ≡ number_at base M2) ⊎ (b + level_of other ≡ number_at base G1))
shared_number K4 K4 base b a aligned there low high from upto =
    inl (omega (arith, aligned, there, low, high, from, upto), omega (arith, aligned, there, low, high, from, upto))
shared_number M2 K4 base b a aligned there low high from upto =
    inl (omega (arith, aligned, there, low, high, from, upto), omega (arith, aligned, there, low, high, from, upto))
shared_number M2 M2 base b a aligned there low high from upto =
    inl (omega (arith, aligned, there, low, high, from, upto), omega (arith, aligned, there, low, high, from, upto))
shared_number G1 K4 base b a aligned there low high from upto =
    inl (omega (arith, aligned, there, low, high, from, upto), omega (arith, aligned, there, low, high, from, upto))
shared_number G1 M2 base b a aligned there low high from upto =
    inl (omega (arith, aligned, there, low, high, from, upto), omega (arith, aligned, there, low, high, from, upto))
shared_number G1 G1 base b a aligned there low high from upto =
    inl (omega (arith, aligned, there, low, high, from, upto), omega (arith, aligned, there, low, high, from, upto))
shared_number K4 M2 base b a aligned there low high from upto = inr (inl (omega (arith, aligned, there, low, high, from, upto)))
shared_number _ _ base b a aligned there low high from upto = inr (inr (omega (arith, aligned, there, low, high, from, upto)))

pub far_from : (changes : List Left) (numbers : BTreeSet ℕ) (left : Left) → ((other : Left) → Contains changes other → IsSoundLeft other)
    → IsSoundLeft left → AreNoted changes numbers
    → contains nat_cmp numbers (number_at left.change.page.base M2) ≡ false → contains nat_cmp numbers (number_at left.change.page.base G1) ≡ false
    → ((n : ℕ) → left.change.page.base ≤ n → n ≤ left.change.page.base + (bytes_of left.change.page.size - 1) → IsTrue (contains nat_cmp numbers n) → ⊥)
    → IsFarFrom changes left
far_from changes numbers left each sound noted no_large no_huge none other address has open_so there own =
    let mine = (covers_means left.change.page address).0 own in
    let its = (covers_means other.change.page address).0 there in
    let it = noted other has open_so in
    elim (shared_number left.change.page.size other.change.page.size left.change.page.base other.change.page.base address sound.aligned
    (each other has).aligned mine.0 mine.1 its.0 its.1) [
      | inl within ↦ none (number_of other.change.page) within.0 within.1 it
      | inr (inl same) ↦ false≢true (sym no_large ∙ ap (contains nat_cmp numbers) (sym same) ∙ it)
      | inr (inr same) ↦ false≢true (sym no_huge ∙ ap (contains nat_cmp numbers) (sym same) ∙ it)
    ]

-- ---- noting

pub none_noted : (changes : List Left) (left : Left) (numbers : BTreeSet ℕ) → ends_look left (page_before left.change) ≡ true → AreNoted changes numbers
    → AreNoted (changes ++ left ∷ []) numbers
none_noted changes left numbers ended noted other has open_so = elim (Contains-push_cases changes left other has) [
  | inl old ↦ noted other old open_so
  | inr new ↦ absurd (false≢true (sym open_so ∙ ap (λ (l : Left). ends_look l (page_before l.change)) (sym new) ∙ ended))
]

stays : (b c : Bool) → c ≡ true → cond b true c ≡ true
stays true c h = refl
stays false c h = h

pub one_noted : (changes : List Left) (left : Left) (old new : BTreeSet ℕ) (number : ℕ) → number ≡ number_of left.change.page
    → Updates nat_cmp old new number true → AreNoted changes old → AreNoted (changes ++ left ∷ []) new
one_noted changes left old new number is updates noted other has open_so = elim (Contains-push_cases changes left other has) [
  | inl before ↦
      let there = noted other before open_so in
      updates.0 (number_of other.change.page)
      ∙ stays (is_at (nat_cmp number) (number_of other.change.page)) (contains nat_cmp old (number_of other.change.page)) there
  | inr own ↦ subst (λ (n : ℕ). IsTrue (contains nat_cmp new n)) (is ∙ ap (λ (l : Left). number_of l.change.page) own) updates.1
]

-- ---- what is kept of the first, this many

pub record IsThinnedTo (changes kept : List Left) (numbers : BTreeSet ℕ) (are_first : Bool) (end : ℕ) : Type 0 where
  pub looks : KeepLooks changes (kept ++ drop end changes)
  pub ends : are_first ≡ false → KeepEnds changes (kept ++ drop end changes)
  pub each : (left : Left) → Contains kept left → IsSoundLeft left
  pub few : length kept ≤ end
  pub noted : AreNoted kept numbers

-- what is kept twice
kept_twice : (Q : List Left → ℕ → Option Page → Type 0) (xs ys zs : List Left) → ((address : ℕ) (page : Option Page) → Q ys address page ↔ Q xs address page)
    → ((address : ℕ) (page : Option Page) → Q zs address page ↔ Q ys address page) → (address : ℕ) (page : Option Page) → Q zs address page ↔ Q xs address page
kept_twice Q xs ys zs first then address page =
    (λ it. (first address page).0 ((then address page).0 it), λ it. (then address page).1 ((first address page).1 it))

pub none_thinned : (changes kept : List Left) (numbers : BTreeSet ℕ) (are_first : Bool) → kept ≡ [] → IsThinnedTo changes kept numbers are_first 0
none_thinned changes kept numbers are_first is = subst (λ (xs : List Left). IsThinnedTo changes xs numbers are_first 0) (sym is) (record {
  looks = λ address page. (λ it. it, λ it. it);
  ends = λ behind address page. (λ it. it, λ it. it);
  each = λ left has. absurd (not_in_nil left has);
  few = omega arith;
  noted = λ left has open_so. absurd (not_in_nil left has);
})

module _ (changes kept : List Left) (are_first : Bool) (end : ℕ) (d : Left) (l : end < length changes) where
  abbrev left : Left
  left = get_or changes end d

  moved : (kept ++ left ∷ []) ++ drop (end + 1) changes ≡ kept ++ drop end changes
  moved = append_assoc kept (left ∷ []) (drop (end + 1) changes) ∙ ap (λ (xs : List Left). kept ++ xs) (sym (drop_more changes end d l))

  -- a change more is kept
  pub one_kept : (old new : BTreeSet ℕ) → IsSoundLeft left → (AreNoted kept old → AreNoted (kept ++ left ∷ []) new) → IsThinnedTo changes kept old are_first end
      → IsThinnedTo changes (kept ++ left ∷ []) new are_first (end + 1)
  one_kept old new sound notes is = record {
    looks = subst (KeepLooks changes) (sym moved) is.looks;
    ends = λ behind. subst (KeepEnds changes) (sym moved) (is.ends behind);
    each = λ other has. elim (Contains-push_cases kept left other has) [ inl old ↦ is.each other old | inr new ↦ subst IsSoundLeft new sound ];
    few = let many = length-append kept (left ∷ []) in let low = is.few in omega (arith, many, low);
    noted = notes is.noted;
  }

  -- or it is needless
  pub one_dropped : (numbers : BTreeSet ℕ) → SaysNothing kept left (drop (end + 1) changes)
      → (are_first ≡ false → KeepEnds (kept ++ left ∷ drop (end + 1) changes) (kept ++ drop (end + 1) changes))
      → IsThinnedTo changes kept numbers are_first end → IsThinnedTo changes kept numbers are_first (end + 1)
  one_dropped numbers nothing ends is = record {
    looks = kept_twice IsLeft changes (kept ++ drop end changes) (kept ++ drop (end + 1) changes) is.looks
        (subst (λ (xs : List Left). KeepLooks (kept ++ xs) (kept ++ drop (end + 1) changes)) (sym (drop_more changes end d l))
        (one_less kept left (drop (end + 1) changes) nothing));
    ends = λ behind. kept_twice HasNoEnd changes (kept ++ drop end changes) (kept ++ drop (end + 1) changes) (is.ends behind)
        (subst (λ (xs : List Left). KeepEnds (kept ++ xs) (kept ++ drop (end + 1) changes)) (sym (drop_more changes end d l)) (ends behind));
    each = is.each;
    few = let low = is.few in omega (arith, low);
    noted = is.noted;
  }

-- all changes are gone through
pub whole_thinned : (changes kept : List Left) (end : ℕ) → length changes ≤ end → kept ++ drop end changes ≡ kept
whole_thinned changes kept end l = ap (λ (xs : List Left). kept ++ xs) (drop_all end changes l) ∙ append-nil kept

-- ---- the changes of a segment

pub sound_lefts : (own : List PlacedChange) → ((c : PlacedChange) → Contains own c → IsNumbered c) → (left : Left) → Contains (map left_of own) left
    → IsSoundLeft left
sound_lefts own numbered left has =
    let (c, there, same) = map_contains left_of own left has in
    let is = numbered c there in
    subst IsSoundLeft same (record { aligned = is.aligned; ends = is.ends; frame = is.frame; low = is.low })

-- ---- the last changes, and those of a segment, merged

module _ (changes own : List Left) (start : ℕ) where
  abbrev pub rows : List Left
  rows = drop start changes ++ own

  pub sound_rows : ((left : Left) → Contains changes left → IsSoundLeft left) → ((left : Left) → Contains own left → IsSoundLeft left)
      → (left : Left) → Contains rows left → IsSoundLeft left
  sound_rows old new left has = elim (Contains-append_cases (drop start changes) own left has) [
    | inl there ↦ old left (subst (λ (xs : List Left). Contains xs left) (take-append-drop start changes)
        (Contains-append_right (take start changes) (drop start changes) left there))
    | inr mine ↦ new left mine
  ]

  pub merged_looks : (kept : List Left) → KeepLooks rows kept → (0 < start → KeepEnds rows kept) → KeepLooks (changes ++ own) (take start changes ++ kept)
  merged_looks kept looks ends =
      subst (λ (xs : List Left). KeepLooks xs (take start changes ++ kept))
      (sym (append_assoc (take start changes) (drop start changes) own) ∙ ap (λ (xs : List Left). xs ++ own) (take-append-drop start changes))
      (behind_others (take start changes) rows kept looks (λ some. ends (elim (cases_lt 0 start) [
        | inl more ↦ more
        | inr none ↦ absurd (some (ap (λ n. take n changes) (let zero_so : start ≡ 0 = omega (arith, none) in zero_so)))
      ])))

  pub merged_sound : (kept : List Left) → AreSound changes → AreSound kept → start ≤ length changes → length kept ≤ length rows
      → length rows < 4294967295 - start → AreSound (take start changes ++ kept)
  merged_sound kept old new within fewer few = record {
    few =
        let many = length-append (take start changes) kept in
        let front = length-take-le start changes within in
        omega (arith, many, front, fewer, few);
    each = λ left has. elim (Contains-append_cases (take start changes) kept left has) [
      | inl there ↦ old.each left (subst (λ (xs : List Left). Contains xs left) (take-append-drop start changes)
          (Contains-append_left (take start changes) (drop start changes) left there))
      | inr mine ↦ new.each left mine
    ];
  }
