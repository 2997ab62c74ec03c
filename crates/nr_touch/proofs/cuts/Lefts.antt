-- The looks that a list of changes leaves, and which of its changes say nothing.
use Rattle.std.proofs.Common.{◌≡◌, ◌↔◌, ℕ, ◌⊎◌, inl, inr, true, false, List, [], ◌∷◌, ◌++◌, Option, Contains, IsTrue, sym, ◌∙◌, subst}
use Rattle.std.proofs.lemmas.Bool.{cases_Bool, false≢true}
use Rattle.std.proofs.lemmas.List.Elements.{Contains-append_cases, Contains-append_left, Contains-append_right}
use Rattle.vs_types.specs.Page.{covers}
use Rattle.vs_types.specs.declared.addresses.page.Page.{Page}
use Rattle.vs_types.proofs.Lists.{Contains-cases, Contains-head, Contains-tail}
use Rattle.nr_touch.specs.Tails.{ends_look, HasNoEnd, IsLeft}
use Rattle.nr_touch.specs.inside.Changes.{page_before}
use Rattle.nr_touch.specs.inside.Lefts.{AreEnded, IsFarFrom, KeepEnds, KeepLooks}
use Rattle.nr_touch.specs.declared.touches.tail.Left.{Left}

-- a look that is left is that before a change which doesn't end it
pub left_by : (changes : List Left) (address : ℕ) (page : Option Page) → IsLeft changes address page
    → (left : Left) × Contains changes left × IsTrue (covers left.change.page address) × (ends_look left (page_before left.change) ≡ false)
left_by [] address page it = absurd it
left_by (left ∷ later) address page (inl (covered, open_so, none, looks)) =
    (left, Contains-head left later, covered, subst (λ (p : Option Page). ends_look left p ≡ false) (sym looks) open_so)
left_by (left ∷ later) address page (inr more) =
    let (own, has, covered, open_so) = left_by later address page more in (own, Contains-tail left later own has, covered, open_so)

pub none_left : (changes : List Left) (address : ℕ) (page : Option Page) → AreEnded changes → IsLeft changes address page → ⊥
none_left changes address page ended it =
    let (left, has, covered, open_so) = left_by changes address page it in false≢true (sym open_so ∙ ended left has)

-- ---- one list behind another

abbrev pub LeftSo : ℕ → Option Page → List Left → List Left → Type 0
LeftSo address page front back = IsLeft back address page ⊎ (IsLeft front address page × HasNoEnd back address page)

module _ (address : ℕ) (page : Option Page) where
  pub left_parts : (front back : List Left) → IsLeft (front ++ back) address page → LeftSo address page front back
  left_parts [] back it = inl it
  left_parts (left ∷ front) back (inl (covered, open_so, none, looks)) = inr (
    inl (covered, open_so, (λ other has. none other (Contains-append_left front back other has)), looks),
    λ other has. none other (Contains-append_right front back other has),
  )
  left_parts (left ∷ front) back (inr more) = elim (left_parts front back more) [
    | inl behind ↦ inl behind
    | inr before ↦ inr (inr before.0, before.1)
  ]

  pub left_both : (front back : List Left) → LeftSo address page front back → IsLeft (front ++ back) address page
  left_both [] back (inl it) = it
  left_both [] back (inr (it, none)) = absurd it
  left_both (left ∷ front) back (inl it) = inr (left_both front back (inl it))
  left_both (left ∷ front) back (inr (inl (covered, open_so, own, looks), none)) = inl (covered, open_so, both, looks) where
    both : HasNoEnd (front ++ back) address page
    both other has = elim (Contains-append_cases front back other has) [ inl here ↦ own other here | inr there ↦ none other there ]
  left_both (left ∷ front) back (inr (inr more, none)) = inr (left_both front back (inr (more, none)))

  -- where the same looks are left behind others, and what ends these, the same are left of all
  same_behind : (front old new : List Left) → (IsLeft new address page ↔ IsLeft old address page)
      → (IsLeft front address page → HasNoEnd new address page ↔ HasNoEnd old address page)
      → IsLeft (front ++ new) address page ↔ IsLeft (front ++ old) address page
  same_behind front old new looks ends = (
    λ it. left_both front old (elim (left_parts front new it) [ inl own ↦ inl (looks.0 own) | inr before ↦ inr (before.0, (ends before.0).0 before.1) ]),
    λ it. left_both front new (elim (left_parts front old it) [ inl own ↦ inl (looks.1 own) | inr before ↦ inr (before.0, (ends before.0).1 before.1) ]),
  )

-- ---- which changes say nothing more

-- between some changes and later ones, this one leaves no look, and ends none that is left
pub record SaysNothing (kept : List Left) (left : Left) (later : List Left) : Type 0 where
  pub leaves : (address : ℕ) → IsTrue (covers left.change.page address) → HasNoEnd later address (page_before left.change)
      → ends_look left (page_before left.change) ≡ true
  pub ends : (address : ℕ) (page : Option Page) → IsTrue (covers left.change.page address) → HasNoEnd later address page → IsLeft kept address page
      → ends_look left page ≡ false

pub one_less : (kept : List Left) (left : Left) (later : List Left) → SaysNothing kept left later → KeepLooks (kept ++ left ∷ later) (kept ++ later)
one_less kept left later nothing address page = same_behind address page kept (left ∷ later) later ((λ it. inr it), without)
    (λ before. (with_it before, λ none other has. none other (Contains-tail left later other has))) where
      with_it : IsLeft kept address page → HasNoEnd later address page → HasNoEnd (left ∷ later) address page
      with_it before none other has = elim (Contains-cases left later other has) [
        | inl same ↦ subst (λ (l : Left). IsTrue (covers l.change.page address) → ends_look l page ≡ false) same
            (λ covered. nothing.ends address page covered none before)
        | inr there ↦ none other there
      ]

      without : IsLeft (left ∷ later) address page → IsLeft later address page
      without (inl (covered, open_so, none, looks)) = absurd (false≢true (sym open_so
          ∙ subst (λ (p : Option Page). ends_look left p ≡ true) looks
          (nothing.leaves address covered (subst (HasNoEnd later address) (sym looks) none))))
      without (inr more) = more

-- a later change of all the addresses ends what this one ends, and the look before it
pub record IsHiddenIn (later : List Left) (left : Left) : Type 0 where
  pub by : Left
  pub has : Contains later by
  pub own : ends_look by (page_before left.change) ≡ true
  pub ends : (page : Option Page) → ends_look left page ≡ true → ends_look by page ≡ true
  pub covers_all : (address : ℕ) → IsTrue (covers left.change.page address) → IsTrue (covers by.change.page address)

pub hidden_nothing : (kept : List Left) (left : Left) (later : List Left) → IsHiddenIn later left → SaysNothing kept left later
hidden_nothing kept left later hidden = record {
  leaves = λ address covered none.
      absurd (false≢true (sym (none hidden.by hidden.has (hidden.covers_all address covered)) ∙ hidden.own));
  ends = λ address page covered none before. elim (cases_Bool (ends_look left page)) [
    | inl ends ↦
        absurd (false≢true (sym (none hidden.by hidden.has (hidden.covers_all address covered)) ∙ hidden.ends page ends))
    | inr open_so ↦ open_so
  ];
}

-- nor does it end more than the later ones
pub hidden_ends : (kept : List Left) (left : Left) (later : List Left) → IsHiddenIn later left → KeepEnds (kept ++ left ∷ later) (kept ++ later)
hidden_ends kept left later hidden address page = (
  λ none other has. elim (Contains-append_cases kept (left ∷ later) other has) [
    | inl front ↦ none other (Contains-append_left kept later other front)
    | inr back ↦ elim (Contains-cases left later other back) [
      | inl same ↦ subst (λ (l : Left). IsTrue (covers l.change.page address) → ends_look l page ≡ false) same (own none)
      | inr there ↦ none other (Contains-append_right kept later other there)
    ]
  ],
  λ none other has. elim (Contains-append_cases kept later other has) [
    | inl front ↦ none other (Contains-append_left kept (left ∷ later) other front)
    | inr back ↦ none other (Contains-append_right kept (left ∷ later) other (Contains-tail left later other back))
  ],
) where
  own : HasNoEnd (kept ++ later) address page → IsTrue (covers left.change.page address) → ends_look left page ≡ false
  own none covered = elim (cases_Bool (ends_look left page)) [
    | inl ends ↦ absurd (false≢true (sym (none hidden.by (Contains-append_right kept later hidden.by hidden.has)
        (hidden.covers_all address covered)) ∙ hidden.ends page ends))
    | inr fine ↦ fine
  ]

-- the same looks of both, where others come before
pub behind_others : (front old new : List Left) → KeepLooks old new → ((front ≡ [] → ⊥) → KeepEnds old new) → KeepLooks (front ++ old) (front ++ new)
behind_others [] old new looks ends address page = looks address page
behind_others (x ∷ front) old new looks ends address page =
    same_behind address page (x ∷ front) old new (looks address page) (λ before. ends (λ none. cc) address page)

-- a change that ends itself, far from those before it that don't
pub far_nothing : (kept : List Left) (left : Left) (later : List Left) → ends_look left (page_before left.change) ≡ true → IsFarFrom kept left
    → SaysNothing kept left later
far_nothing kept left later ended far = record {
  leaves = λ address covered none. ended;
  ends = λ address page covered none before.
      let (other, has, there, open_so) = left_by kept address page before in absurd (far other address has open_so there covered);
}
