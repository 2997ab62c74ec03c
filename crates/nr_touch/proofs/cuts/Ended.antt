-- When the answers of listed changes end how their addresses are found to look.
use Rattle.std.proofs.Common.{◌≡◌, ◌≢◌, ◌↔◌, ℕ, ◌<◌, ◌≤◌, ◌^◌, ◌+◌, ◌&&◌, ◌||◌, inl, inr, Bool, true, false, cond, nat_lt, is_some, List, length, take, Option, Some, None}
use Rattle.std.proofs.Common.{Contains, IsTrue, refl, sym, ap, ◌∙◌, subst, arith}
use Rattle.std.proofs.lemmas.Bool.{cases_lt, false≢true}
use Rattle.std.proofs.lemmas.Bool.Decides.{nat_tests}
use Rattle.std.proofs.lemmas.List.{take_all}
use Rattle.std.proofs.lemmas.Option.{same_Some, slice_get_within}
use Rattle.vs_types.specs.Space.{Space, page_at}
use Rattle.vs_types.specs.declared.addresses.page.Page.{Page}
use Rattle.nr_trace.specs.Recording.{Recording}
use Rattle.nr_trace.specs.Calls.{Answers}
use Rattle.nr_trace.specs.Orders.{space_from}
use Rattle.nr_touch.specs.Tails.{ends_look}
use Rattle.nr_touch.specs.Touches.{page_after, ChangesLook, Ends, EndsLook, IsAnsweredBefore, TakesAway}
use Rattle.nr_touch.specs.inside.Changes.{ended_at, page_before, AreChanges, IsPlaced}
use Rattle.nr_touch.specs.inside.Columns.{Covers, IsPast}
use Rattle.nr_touch.specs.inside.Lefts.{left_of}
use Rattle.nr_touch.specs.declared.changes.change.Change.{Change}
use Rattle.nr_touch.specs.declared.changes.change.PlacedChange.{PlacedChange}
use Rattle.nr_touch.specs.declared.touches.tail.Left.{Left}

-- what ends a look changes it
pub ends_changes : (page before after : Option Page) → Ends page before after → before ≢ after
ends_changes None before after differs = differs
ends_changes (Some page) before after taken = λ same. taken.gone (record {
  rights = taken.page.rights;
  is = sym same ∙ taken.was;
  more = record { write = λ t. t; user = λ t. t; exec = λ t. t };
})

pub found_before : (change : Change) → is_some (page_before change) ≡ change.was_mapped
found_before change = by change.was_mapped where
  by : (mapped : Bool) → is_some (cond mapped (Some change.page) None) ≡ mapped
  by true = refl
  by false = refl

-- a change as it is left ends what it ends at some event
pub ends_at : (c : PlacedChange) (page : Option Page) → IsTrue (ends_look (left_of c) page) ↔ (ended_at (is_some page) c < 4294967295)
ends_at c None = (λ t. grind (arith, nat_tests), λ l. grind (arith, nat_tests))
ends_at c (Some page) = by c.change.takes where
  by : (takes : Bool) → IsTrue (nat_lt c.answered 4294967295 && takes) ↔ (cond takes c.answered 4294967295 < 4294967295)
  by true = (λ t. grind (arith, nat_tests), λ l. grind (arith, nat_tests))
  by false = (λ t. grind (arith, nat_tests), λ l. absurd (omega (arith, l)))

-- a change that ends a page ends no page too
both_ended : (c : PlacedChange) → ended_at true c < 4294967295 → (page : Option Page) → ends_look (left_of c) page ≡ true
both_ended c early None = (ends_at c None).1 (by c.change.takes early) where
  by : (takes : Bool) → cond takes c.answered 4294967295 < 4294967295 → c.answered < 4294967295
  by true l = l
  by false l = absurd (omega (arith, l))
both_ended c early (Some page) = (ends_at c (Some page)).1 early

-- a change that ends pages, if another leaves or ends them, ends all that this one leaves or ends
pub ends_all : (c : PlacedChange) (left : Left) → ended_at (left.change.was_mapped || left.change.takes) c < 4294967295
    → (ends_look (left_of c) (page_before left.change) ≡ true) × ((page : Option Page) → ends_look left page ≡ true → ends_look (left_of c) page ≡ true)
ends_all c left early = (by left.change.was_mapped left.change.takes early, λ page. from left.change.was_mapped left.change.takes early page) where
  by : (mapped takes : Bool) → ended_at (mapped || takes) c < 4294967295 → ends_look (left_of c) (cond mapped (Some left.change.page) None) ≡ true
  by true takes l = both_ended c l (Some left.change.page)
  by false true l = both_ended c l None
  by false false l = (ends_at c None).1 l

  not_both : (over : Bool) → over && false ≡ true → ⊥
  not_both true e = false≢true e
  not_both false e = false≢true e

  from : (mapped takes : Bool) → ended_at (mapped || takes) c < 4294967295 → (page : Option Page)
      → ends_look (record { change = record left.change { takes = takes }; over = left.over }) page ≡ true → ends_look (left_of c) page ≡ true
  from true takes l page e = both_ended c l page
  from false true l page e = both_ended c l page
  from false false l None e = (ends_at c None).1 l
  from false false l (Some page) e = absurd (not_both left.over e)

-- ---- changes of a log

-- a place that changes how an address looks is one of the log
take_past : {X : Type 0} (xs : List X) (n : ℕ) → length xs ≤ n → take n xs ≡ take (n + 1) xs
take_past xs n l = take_all n xs l ∙ sym (take_all (n + 1) xs (omega (arith, l)))

pub change_within : (start : Space) (trace : Recording) (address place : ℕ) → ChangesLook start trace address place → place < length trace.log
change_within start trace address place changes = elim (cases_lt place (length trace.log)) [
  | inl l ↦ l
  | inr past ↦ absurd (changes (ap (λ (calls : List ℕ). page_at (space_from start trace calls) address) (take_past trace.log place past)))
]

module _ (start : Space) (trace : Recording) (address event : ℕ) (fits : event < 2 ^ 32) where
  -- its update ends the look, and is answered before the event
  pub ended_before : (c : PlacedChange) (page : Option Page) → IsPlaced start trace c → Covers address c
      → (ended_at (is_some page) c < event) ↔ (EndsLook start trace address page c.place × IsAnsweredBefore trace c.place event)
  ended_before c page known covered = by_page page where
    forth : c.answered < event → IsAnsweredBefore trace c.place event
    forth early = (c.made, known.made, (known.answered event fits).0 early)

    back : IsAnsweredBefore trace c.place event → c.answered < event
    back (call, placed, (reply, before, answers)) =
        let one : call ≡ c.made = same_Some call c.made (sym placed ∙ known.made) in
        (known.answered event fits).1 (reply, before, subst (Answers trace reply) one answers)

    by_takes : (takes : Bool) → IsTrue takes ↔ TakesAway start trace address c.place
        → (cond takes c.answered 4294967295 < event) ↔ (TakesAway start trace address c.place × IsAnsweredBefore trace c.place event)
    by_takes true takes = (λ early. (takes.0 refl, forth early), λ it. back it.1)
    by_takes false takes = (λ early. absurd (omega (arith, early, fits)), λ it. absurd (false≢true (takes.1 it.0)))

    by_page : (o : Option Page) → (ended_at (is_some o) c < event) ↔ (EndsLook start trace address o c.place × IsAnsweredBefore trace c.place event)
    by_page None = (λ early. (known.differs address covered, forth early), λ it. back it.1)
    by_page (Some p) = by_takes c.change.takes (known.takes address covered)

  module _ (changes : List PlacedChange) (are : AreChanges start trace changes) (page : Option Page) where
    -- the change of such an update is listed
    pub listed_before : (place : ℕ) → EndsLook start trace address page place → IsAnsweredBefore trace place event
        → (c : PlacedChange) × Contains changes c × Covers address c × (ended_at (is_some page) c < event) × (c.place ≡ place)
    listed_before place ends answered =
        let (c, has, at, covered) = are.all place address (slice_get_within trace.log place answered.0 answered.1)
        (ends_changes page (page_after start trace address place) (page_after start trace address (place + 1)) ends) in
        let it = subst (λ p. EndsLook start trace address page p × IsAnsweredBefore trace p event) (sym at) (ends, answered) in
        (c, has, covered, (ended_before c page (are.each c has).0 covered).1 it, at)

    module _ (first : ℕ) (past : IsPast changes (λ c. Covers address c × (ended_at (is_some page) c < event)) first) where
      pub ends_past : (place : ℕ) → EndsLook start trace address page place → IsAnsweredBefore trace place event → place < first
      ends_past place ends answered =
          let (c, has, covered, early, at) = listed_before place ends answered in
          let less = past.all c has (covered, early) in
          omega (arith, less, at)

      pub past_ends : (bound : ℕ) → ((place : ℕ) → EndsLook start trace address page place → IsAnsweredBefore trace place event → place < bound)
          → first ≤ bound
      past_ends bound all = elim past.some [
        | inl none ↦ omega (arith, none)
        | inr (c, has, (covered, early), at) ↦
            let (ends, answered) = (ended_before c page (are.each c has).0 covered).0 early in
            let less = all c.place ends answered in
            omega (arith, less, at)
      ]
