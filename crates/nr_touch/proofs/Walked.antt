-- The walk of a touch through the states of its address that are allowed.
use Rattle.std.proofs.Common.{◌≡◌, ℕ, ◌<◌, ◌≤◌, ◌^◌, ◌⊎◌, ◌↔◌, inl, inr, Bool, List, length, take, slice_get, Option}
use Rattle.std.proofs.Common.{Some, None, IsSomeAnd, IsTrue}
use Rattle.std.specs.Prelude.{is_some}
use Rattle.std.proofs.Common.{sym, ap, ◌∙◌, subst, arith}
use Rattle.std.proofs.Math.Seq.{take-length}
use Rattle.std.specs.List.Sorted.{IsPermutation}
use Rattle.std.proofs.lemmas.List.Sorted.{IsPermutation-sym, Contains-permutation}
use Rattle.std.proofs.lemmas.Option.{same_Some, slice_get_within}
use Rattle.std.proofs.lemmas.Bool.{cases_lt}
use Rattle.vs_types.specs.Space.{Space, page_at}
use Rattle.vs_types.specs.Step.{allow, allow_in_page}
use Rattle.vs_types.specs.declared.addresses.page.Page.{Page}
use Rattle.nr_trace.specs.Recording.{Recording}
use Rattle.nr_trace.specs.Orders.{space_from}
use Rattle.nr_touch.specs.Touches.{page_after, ChangesLook, IsAllowedPrefix, IsAnsweredAt, IsAnsweredInTime, IsMadeAfter}
use Rattle.nr_touch.specs.inside.Changes.{ended_at, AreChanges}
use Rattle.nr_touch.specs.inside.Columns.{Covers, IsPast, IsAhead, IsNext}
use Rattle.nr_touch.specs.inside.Joined.{Behind}
use Rattle.nr_touch.specs.inside.Sights.{IsAnsweredBetween}
use Rattle.nr_touch.specs.inside.Walk.{shown, IsAnsweredWithin}
use Rattle.nr_touch.specs.declared.changes.change.PlacedChange.{PlacedChange}
use Rattle.nr_touch.specs.declared.touches.joined.Joined.{Joined}
use Rattle.nr_touch.specs.declared.touches.touch.Touch.{Touch}
use Rattle.nr_touch.proofs.NextChanges.{next_change, same_within}
use Rattle.nr_touch.proofs.cuts.Ended.{ends_past, past_ends}

-- so many places are not past the next change
abbrev pub UpToNext : ℕ → Option PlacedChange → Type 0
UpToNext n None = Unit {0}
UpToNext n (Some next) = n ≤ next.place

-- no change lies before the place
pub up_to_last : (next : Option PlacedChange) (n last : ℕ) → (IsSomeAnd next (λ c. c.place < last) → ⊥) → n ≤ last → UpToNext n next
up_to_last None n last none l = tt
up_to_last (Some next) n last none l = elim (cases_lt next.place last) [
  | inl before ↦ absurd (none before)
  | inr past ↦ omega (arith, past, l)
]

-- the next change is from the place on
pub next_up : (changes : List PlacedChange) (P : PlacedChange → Type 0) (n : ℕ) (next : Option PlacedChange) → IsNext changes P n next → UpToNext n next
next_up changes P n None is = tt
next_up changes P n (Some next) is = is.2

module _ {joined : Joined} (b : Behind joined) where
  abbrev changes : List PlacedChange
  changes = joined.history.changes.items

  -- ---- which prefixes have no update that was made too late

  module _ (touch : Touch) (last : ℕ) (ahead : IsAhead changes (λ c. Covers touch.address c × (touch.answered < c.made)) joined.places last) where
    pub last_within : last ≤ length b.segment.log
    last_within = elim ahead.some [
      | inl whole ↦ omega (arith, whole, b.places)
      | inr (c, has, is, at) ↦ let below = (b.own.each c has).1 in omega (arith, at, below)
    ]

    pub none_foreseen : (n : ℕ) → n ≤ last → (place : ℕ) → ChangesLook b.start b.segment touch.address place
        → IsMadeAfter b.segment place touch.answered → n ≤ place
    none_foreseen n high place looks (call, placed, late) =
        let (c, has, at, covered) = b.own.all place touch.address (slice_get_within b.segment.log place call placed) looks in
        let known = (b.own.each c has).0 in
        let one : c.made ≡ call = same_Some c.made call (sym known.made ∙ ap (slice_get b.segment.log) at ∙ placed) in
        let least = ahead.all c has (covered, subst (λ k. touch.answered < k) (sym one) late) in
        omega (arith, least, at, high)

    pub up_to_foreseen : (n : ℕ) → n ≤ length b.segment.log
        → ((place : ℕ) → ChangesLook b.start b.segment touch.address place → IsMadeAfter b.segment place touch.answered → n ≤ place) → n ≤ last
    up_to_foreseen n within least = elim ahead.some [
      | inl whole ↦ omega (arith, whole, b.places, within)
      | inr (c, has, (covered, late), at) ↦
          let known = (b.own.each c has).0 in
          let less = least c.place (known.differs touch.address covered) (c.made, known.made, late) in
          omega (arith, less, at)
    ]

    -- ---- which prefixes are allowed

    module _ (first : ℕ) (finds : Bool)
        (sees : (page : Option Page) → touch.answer ≡ allow_in_page touch.address touch.mode touch.access page → finds ≡ is_some page)
        (fits : touch.made < 2 ^ 32) (past : IsPast changes (λ c. Covers touch.address c × (ended_at finds c < touch.made)) first) where
      past_so : (page : Option Page) → touch.answer ≡ allow_in_page touch.address touch.mode touch.access page
          → IsPast changes (λ c. Covers touch.address c × (ended_at (is_some page) c < touch.made)) first
      past_so page answered = subst (λ t. IsPast changes (λ c. Covers touch.address c × (ended_at t c < touch.made)) first) (sees page answered) past

      -- entries after which the touch is answered so are allowed where they lie between
      pub allowed_so : (n : ℕ) → IsAnsweredAt b.start b.segment touch n → IsAllowedPrefix b.start b.segment touch n ↔ ((first ≤ n) × (n ≤ last))
      allowed_so n answered =
          let look = page_after b.start b.segment touch.address n in (
            λ is. (
              past_ends b.start b.segment touch.address touch.made fits changes b.own look first (past_so look answered) n is.flushed,
              up_to_foreseen n is.within is.not_foreseen,
            ),
            λ (low, high). record {
              within = let most = last_within in omega (arith, most, high);
              flushed = λ place ends early.
                  let less = ends_past b.start b.segment touch.address touch.made fits changes b.own look first (past_so look answered) place ends early in
                  omega (arith, less, low);
              not_foreseen = none_foreseen n high;
            },
          )

      pub in_time : IsAnsweredInTime b.start b.segment touch ↔ IsAnsweredWithin b.start b.segment touch first last
      in_time = (
        λ (n, is, answered). let (low, high) = (allowed_so n answered).0 is in (n, low, high, answered),
        λ (n, low, high, answered). (n, (allowed_so n answered).1 (low, high), answered),
      )

  -- ---- how an address looks until its next change

  pub shown_from : (a n m : ℕ) (next : Option PlacedChange) → IsNext changes (Covers a) n next → n ≤ m → m ≤ length b.segment.log
      → UpToNext m next → page_after b.start b.segment a m ≡ shown next joined.space.space a
  shown_from a n m None is low high up = same_within b.start b.segment a m (length b.segment.log) high (λ p from to looks.
      let (c, has, at, covered) = b.own.all p a to looks in
      let less = is c has covered in
      omega (arith, less, at, from, low)) ∙ ap (λ calls. page_at (space_from b.start b.segment calls) a) (take-length b.segment.log)
      ∙ ap (λ s. page_at s a) (sym b.space)
  shown_from a n m (Some next) is low high up = same_within b.start b.segment a m next.place up (λ p from to looks.
      let below = (b.own.each next is.0).1 in
      let (c, has, at, covered) = b.own.all p a (omega (arith, below, to)) looks in
      let least = is.3 c has covered (omega (arith, at, from, low)) in
      omega (arith, least, at, to)) ∙ (b.own.each next is.0).0.was a is.1

  -- what says whether the touch is answered as the address looks before its next change says it of each moment up to there
  module _ (touch : Touch) (n : ℕ) (next : Option PlacedChange) (r : Bool) (is : IsNext changes (Covers touch.address) n next)
      (says : (now : Space) → page_at now touch.address ≡ shown next joined.space.space touch.address
      → IsTrue r ↔ (touch.answer ≡ allow now touch.address touch.mode touch.access)) where
    pub says_upto : (m : ℕ) → n ≤ m → m ≤ length b.segment.log → UpToNext m next → IsTrue r ↔ IsAnsweredAt b.start b.segment touch m
    says_upto m low high up = says (space_from b.start b.segment (take m b.segment.log)) (shown_from touch.address n m next is low high up)

    pub says_at : n ≤ length b.segment.log → IsTrue r ↔ IsAnsweredAt b.start b.segment touch n
    says_at within = says_upto n (omega arith) within (next_up changes (Covers touch.address) n next is)

  -- ---- from moment to moment

  -- an answer of a moment is one of the last moment too, or of one that a change before it ended
  pub answered_later : (touch : Touch) (n last : ℕ) → n ≤ last → last ≤ length b.segment.log → IsAnsweredAt b.start b.segment touch n
      → IsAnsweredAt b.start b.segment touch last ⊎ IsAnsweredBetween changes (Covers touch.address) touch n last
  answered_later touch n last low within answered = elim (next_change b.start b.segment touch.address n last low) [
    | inl (place, from, to, looks, same) ↦
        let (c, has, at, covered) = b.own.all place touch.address (omega (arith, to, within)) looks in
        let was = (b.own.each c has).0.was touch.address covered in
        let looks_so = sym same ∙ ap (page_after b.start b.segment touch.address) (sym at) ∙ was in
        let told = answered ∙ ap (allow_in_page touch.address touch.mode touch.access) looks_so in
        inr (c, has, covered, omega (arith, at, from), omega (arith, at, to), told)
    | inr same ↦ inl (answered ∙ ap (allow_in_page touch.address touch.mode touch.access) same)
  ]

  pub answered_before : (touch : Touch) (first last : ℕ) → IsAnsweredBetween changes (Covers touch.address) touch first last
      → (n : ℕ) × (first ≤ n) × (n ≤ last) × IsAnsweredAt b.start b.segment touch n
  answered_before touch first last (c, has, covered, low, high, answered) = (
    c.place,
    low,
    omega (arith, high),
    answered ∙ ap (allow_in_page touch.address touch.mode touch.access) (sym ((b.own.each c has).0.was touch.address covered)),
  )

-- ---- the changes in another order

pub permuted : (start : Space) (trace : Recording) (xs ys : List PlacedChange) → IsPermutation xs ys → AreChanges start trace xs → AreChanges start trace ys
permuted start trace xs ys same are = record {
  each = λ c has. are.each c (Contains-permutation ys xs c (IsPermutation-sym xs ys same) has);
  all = λ place address l looks.
      let (c, has, at, covered) = are.all place address l looks in
      (c, Contains-permutation xs ys c same has, at, covered);
}
