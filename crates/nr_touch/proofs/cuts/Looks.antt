-- The list of the looks that changes leave an address.
use Rattle.std.specs.Prelude.{◌&&◌, ◌||◌, if◌then◌else◌, not}
use Rattle.std.proofs.Common.{◌≡◌, ℕ, ◌+◌, ◌≤◌, inl, inr, Bool, true, false, cond, List, [], ◌∷◌, ◌++◌, drop, get_or, length, reverse, Option, Some, None, Contains}
use Rattle.std.proofs.Common.{IsTrue, refl, sym, ap, ◌∙◌, subst, arith}
use Rattle.std.proofs.Math.Bool.{and-false}
use Rattle.std.proofs.lemmas.Bool.{and_parts, not-true, or_parts}
use Rattle.std.proofs.lemmas.Grind.{reverse_onto}
use Rattle.std.proofs.lemmas.List.{drop_all, drop_more, reverse-reverse}
use Rattle.std.proofs.lemmas.List.Elements.{Contains-append_cases, Contains-append_left, Contains-append_right}
use Rattle.vs_types.specs.Page.{covers}
use Rattle.vs_types.specs.Step.{look_in_page}
use Rattle.vs_types.specs.declared.requests.answer.Answer.{Answer}
use Rattle.vs_types.specs.declared.addresses.page.Page.{Page}
use Rattle.vs_types.proofs.Lists.{not_in_nil, Contains-cases, Contains-head, Contains-tail}
use Rattle.nr_touch.specs.Looks.{is_ended, looks_left, AreLooksLeft, IsLookLeft}
use Rattle.nr_touch.specs.Tails.{ends_look, HasNoEnd, IsLeft}
use Rattle.nr_touch.specs.inside.Changes.{page_before}
use Rattle.nr_touch.specs.inside.Lefts.{AreEndedBy}
use Rattle.nr_touch.specs.declared.touches.looks.Ended.{Ended}
use Rattle.nr_touch.specs.declared.touches.tail.Left.{Left}

-- ---- whether some change ends a look

module _ (address : ℕ) (page : Option Page) where
  pub has_no_end : (changes : List Left) → is_ended changes address page ≡ false → HasNoEnd changes address page
  has_no_end [] e other has covered = absurd (not_in_nil other has)
  has_no_end (left ∷ later) e other has covered =
      let parts = or_parts (covers left.change.page address && ends_look left page) (is_ended later address page) e in
      elim (Contains-cases left later other has) [
        | inl same ↦
            let own : (covers other.change.page address && ends_look other page) ≡ false =
            subst (λ (l : Left). (covers l.change.page address && ends_look l page) ≡ false) same parts.0 in
            ap (λ (b : Bool). b && ends_look other page) (sym covered) ∙ own
        | inr behind ↦ has_no_end later parts.1 other behind covered
      ]

  pub no_end_is : (changes : List Left) → HasNoEnd changes address page → is_ended changes address page ≡ false
  no_end_is [] none = refl
  no_end_is (left ∷ later) none =
      ap (λ (b : Bool). b || is_ended later address page) (own (covers left.change.page address) (none left (Contains-head left later)))
      ∙ no_end_is later (λ other has. none other (Contains-tail left later other has)) where
        own : (covered : Bool) → (covered ≡ true → ends_look left page ≡ false) → (covered && ends_look left page) ≡ false
        own true ends = ends refl
        own false ends = refl

-- ---- just these looks are left

in_one : (b : Bool) (x y : Answer) → Contains (cond b (x ∷ []) []) y → (b ≡ true) × (x ≡ y)
in_one true x y has = elim (Contains-cases x [] y has) [ inl same ↦ (refl, same) | inr none ↦ absurd (not_in_nil y none) ]
in_one false x y has = absurd (not_in_nil y has)

pub looks_are : (changes : List Left) (address : ℕ) → AreLooksLeft changes address (looks_left changes address)
looks_are [] address look = (λ has. absurd (not_in_nil look has), λ it. absurd it.1)
looks_are (left ∷ later) address look = (
  λ has. elim (Contains-append_cases (cond leaves (own ∷ []) []) (looks_left later address) look has) [
    | inl mine ↦
        let (both, same) = in_one leaves own look mine in
        let parts = and_parts (covers left.change.page address) (not (is_ended (left ∷ later) address page)) both in
        let none = has_no_end address page (left ∷ later) (not-true (is_ended (left ∷ later) address page) parts.1) in (
          page,
          inl (parts.0, none left (Contains-head left later) parts.0, (λ other there. none other (Contains-tail left later other there)), refl),
          sym same,
        )
    | inr more ↦ let (p, it, is) = (looks_are later address look).0 more in (p, inr it, is)
  ],
  λ (p, it, is). back (looks_are later address look).1 p it is,
) where
  page : Option Page
  page = page_before left.change

  own : Answer
  own = look_in_page address page

  leaves : Bool
  leaves = covers left.change.page address && not (is_ended (left ∷ later) address page)

  back : (IsLookLeft later address look → Contains (looks_left later address) look) → (p : Option Page) → IsLeft (left ∷ later) address p
      → look ≡ look_in_page address p → Contains (cond leaves (own ∷ []) [] ++ looks_left later address) look
  back more p (inl (covered, open_so, none, looks)) is =
      let all : HasNoEnd (left ∷ later) address page = subst (HasNoEnd (left ∷ later) address) (sym looks) (λ other has.
      elim (Contains-cases left later other has) [
        | inl same ↦ subst (λ (l : Left). IsTrue (covers l.change.page address) → ends_look l p ≡ false) same (λ c. open_so)
        | inr behind ↦ none other behind
      ]) in
      let both : leaves ≡ true = λ i. covered i && not (no_end_is address page (left ∷ later) all i) in
      Contains-append_left (cond leaves (own ∷ []) []) (looks_left later address) look
      (subst (λ (b : Bool). Contains (cond b (own ∷ []) []) look) (sym both)
      (subst (Contains (own ∷ [])) (ap (look_in_page address) looks ∙ sym is) (Contains-head own [])))
  back more p (inr it) is = Contains-append_right (cond leaves (own ∷ []) []) (looks_left later address) look (more (p, it, is))

-- ---- one change after another, from the last one back

module _ (left : Left) (later : List Left) (address : ℕ) where
  abbrev leaves_by : Bool → Bool → List Answer
  leaves_by covered ended =
      (if covered && not ended then look_in_page address (page_before left.change) ∷ [] else []) ++ looks_left later address

  abbrev ended_now : Bool
  ended_now = is_ended (left ∷ later) address (page_before left.change)

  -- one that hasn't the address
  pub looks_passed : covers left.change.page address ≡ false → looks_left (left ∷ later) address ≡ looks_left later address
  looks_passed e = ap (λ (b : Bool). leaves_by b ended_now) e

  pub ended_passed : covers left.change.page address ≡ false → (ended : Ended) → AreEndedBy later address ended → AreEndedBy (left ∷ later) address ended
  ended_passed e ended are = record {
    page = λ p. are.page p ∙ ap (λ (b : Bool). (b && ends_look left (Some p)) || is_ended later address (Some p)) (sym e);
    none = are.none ∙ ap (λ (b : Bool). (b && ends_look left None) || is_ended later address None) (sym e);
  }

  pub looks_ended : ended_now ≡ true → looks_left (left ∷ later) address ≡ looks_left later address
  looks_ended e =
      ap (leaves_by (covers left.change.page address)) e
      ∙ ap (λ (b : Bool). (if b then look_in_page address (page_before left.change) ∷ [] else []) ++ looks_left later address)
      (and-false (covers left.change.page address))

  pub looks_more : covers left.change.page address ≡ true → ended_now ≡ false
      → looks_left (left ∷ later) address ≡ look_in_page address (page_before left.change) ∷ looks_left later address
  looks_more covered e = λ i. leaves_by (covered i) (e i)

  pub reversed_more : (looks : List Answer) → looks ≡ reverse (looks_left later address) → covers left.change.page address ≡ true → ended_now ≡ false
      → looks ++ look_in_page address (page_before left.change) ∷ [] ≡ reverse (looks_left (left ∷ later) address)
  reversed_more looks is covered e =
      ap (λ (xs : List Answer). xs ++ look_in_page address (page_before left.change) ∷ []) is
      ∙ sym (reverse_onto (looks_left later address) (look_in_page address (page_before left.change)) [])
      ∙ ap reverse (sym (looks_more covered e))

-- what the last ones leave, this many
pub record IsListedFrom (changes : List Left) (address from : ℕ) (ended : Ended) (looks : List Answer) : Type 0 where
  pub are : AreEndedBy (drop from changes) address ended
  pub list : looks ≡ reverse (looks_left (drop from changes) address)

pub none_listed : (changes : List Left) (address from : ℕ) (looks : List Answer) → length changes ≤ from → looks ≡ []
    → IsListedFrom changes address from (record { page = false; none = false }) looks
none_listed changes address from looks all none =
    let nil = sym (drop_all from changes all) in record {
      are = subst (λ (xs : List Left). AreEndedBy xs address (record { page = false; none = false })) nil (record { page = λ p. refl; none = refl });
      list = subst (λ (xs : List Left). looks ≡ reverse (looks_left xs address)) nil none;
    }

pub one_listed : (changes : List Left) (address from next : ℕ) (d : Left) (ended : Ended) (looks : List Answer) → next + 1 ≡ from → from ≤ length changes
    → AreEndedBy (get_or changes next d ∷ drop from changes) address ended
    × (looks ≡ reverse (looks_left (get_or changes next d ∷ drop from changes) address)) → IsListedFrom changes address next ended looks
one_listed changes address from next d ended looks here l it =
    let more = ap (λ n. get_or changes next d ∷ drop n changes) (sym here) ∙ sym (drop_more changes next d (omega (arith, here, l))) in record {
      are = subst (λ (xs : List Left). AreEndedBy xs address ended) more it.0;
      list = subst (λ (xs : List Left). looks ≡ reverse (looks_left xs address)) more it.1;
    }

pub all_listed : (changes : List Left) (address : ℕ) (ended : Ended) (looks : List Answer) → IsListedFrom changes address 0 ended looks
    → reverse looks ≡ looks_left changes address
all_listed changes address ended looks it = ap reverse it.list ∙ reverse-reverse (looks_left changes address)
