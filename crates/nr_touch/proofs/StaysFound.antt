-- The stays of pages: one for each, and those of one page that meet in one.
use Rattle.std.proofs.Common.{◌≡◌, ℕ, ◌+◌, zero, suc, ◌<◌, ◌≤◌, ◌^◌, ◌⊎◌, inl, inr, List, [], ◌∷◌, ◌++◌, get_or, slice_get, length, Contains, Some, refl, sym, ap, ◌∙◌, subst, arith}
use Rattle.std.proofs.lemmas.Bool.{cases_lt}
use Rattle.std.proofs.lemmas.List.Elements.{Contains-append_cases, Contains-append_left, Contains-append_right}
use Rattle.std.proofs.lemmas.Option.{same_Some, slice_get_within, slice_get-get_or}
use Rattle.vs_types.specs.declared.addresses.page.Page.{Page}
use Rattle.nr_touch.specs.inside.Reached.{IsAlive, IsRoomy}
use Rattle.nr_touch.specs.inside.Reached.{IsSamePlace}
use Rattle.nr_touch.specs.inside.Stays.{AreRoomy, HasStay, HaveStays}
use Rattle.nr_touch.specs.declared.changes.change.PlacedChange.{PlacedChange}
use Rattle.nr_touch.specs.declared.releases.seen.Seen.{Seen}
use Rattle.nr_touch.specs.declared.releases.stays.Stay.{Stay}
use Rattle.nr_touch.proofs.IndexRows.{one_more}
use Rattle.nr_touch.proofs.Lefts.{in_got}

only : (a x : Stay) → Contains (a ∷ []) x → a ≡ x
only a x (zero, less, at) = at
only a x (suc k, less, at) = absurd (omega (arith, less))

same_places : (a b page : Page) → IsSamePlace a b → IsSamePlace b page → IsSamePlace a page
same_places a b page first then = record { base = first.base ∙ then.base; size = first.size ∙ then.size; phys = first.phys ∙ then.phys }

-- ---- the stays of pages, page by page

-- the first pages, this many, have their stays
abbrev pub HaveStaysTo : List PlacedChange → List Seen → List Stay → ℕ → Type 0
HaveStaysTo changes seen stays end = (k : ℕ) (s : Seen) (event : ℕ) → k < end → slice_get seen k ≡ Some s → event < 2 ^ 32 → IsAlive changes s event
    → HasStay stays s.page s.place event

pub no_stays : (changes : List PlacedChange) (seen : List Seen) (stays : List Stay) → HaveStaysTo changes seen stays 0
no_stays changes seen stays k s event l at fits alive = absurd (omega (arith, l))

pub one_stay_more : (changes : List PlacedChange) (seen : List Seen) (stays more : List Stay) (end : ℕ) (d : Seen) (from until : ℕ) → end < length seen
    → ((event : ℕ) → event < 2 ^ 32 → IsAlive changes (get_or seen end d) event → (from ≤ event) × (event ≤ until))
    → ((page : Page) (place event : ℕ) → HasStay
    (stays ++ record { page = (get_or seen end d).page; place = (get_or seen end d).place; from = from; until = until } ∷ []) page place
    event
    → HasStay more page place event)
    → HaveStaysTo changes seen stays end → HaveStaysTo changes seen more (end + 1)
one_stay_more changes seen stays more end d from until less spans kept have k s event l at fits alive =
    let own : Stay = record { page = (get_or seen end d).page; place = (get_or seen end d).place; from = from; until = until } in
    kept s.page s.place event (elim (cases_lt k end) [
      | inl low ↦
          let (stay, has, same, first, last, place) = have k s event low at fits alive in
          (stay, Contains-append_left stays (own ∷ []) stay has, same, first, last, place)
      | inr past ↦
          let here : k ≡ end = omega (arith, l, past) in
          let same : get_or seen end d ≡ s = same_Some (get_or seen end d) s (sym (slice_get-get_or seen end d less) ∙ ap (slice_get seen) (sym here) ∙ at) in
          let within = spans event fits (subst (λ (q : Seen). IsAlive changes q event) (sym same) alive) in (
            own,
            Contains-append_right stays (own ∷ []) own (0, omega arith, refl),
            record { base = ap (λ (q : Seen). q.page.base) same; size = ap (λ (q : Seen). q.page.size) same; phys = ap (λ (q : Seen). q.page.phys) same },
            within.0,
            within.1,
            let place = ap (λ (q : Seen). q.place) same in omega (arith, place),
          )
    ])

pub all_stays : (changes : List PlacedChange) (seen : List Seen) (stays : List Stay) (end : ℕ) → length seen ≤ end → HaveStaysTo changes seen stays end
    → HaveStays changes seen stays
all_stays changes seen stays end all have s event has =
    let (k, at) = in_got seen s has in
    have k s event (let l = slice_get_within seen k s at in omega (arith, l, all)) at

-- ---- one stay more, added to the last one

-- the last stay of a list, and the one that comes, in one that has the events of both
module _ (old rest new : List Stay) (last stay both : Stay) (old_is : old ≡ rest ++ last ∷ []) (new_is : new ≡ rest ++ both ∷ [])
    (page_is : both.page ≡ last.page) where
  pub joined_kept : (last.place ≤ both.place) × (stay.place ≤ both.place) → (both.from ≤ last.from) × (last.until ≤ both.until)
      → (both.from ≤ stay.from) × (stay.until ≤ both.until) → IsSamePlace last.page stay.page → (page : Page) (at event : ℕ)
      → HasStay (old ++ stay ∷ []) page at event → HasStay new page at event
  joined_kept places own other same page at event (found, has, place, first, until, late) = by (Contains-append_cases old (stay ∷ []) found has) where
    here : IsSamePlace last.page page → both.from ≤ event → event ≤ both.until → at ≤ both.place → HasStay new page at event
    here of low high up = (
      both,
      subst (λ (xs : List Stay). Contains xs both) (sym new_is) (Contains-append_right rest (both ∷ []) both (0, omega arith, refl)),
      subst (λ (q : Page). IsSamePlace q page) (sym page_is) of,
      low,
      high,
      up,
    )

    by_old : Contains rest found ⊎ Contains (last ∷ []) found → HasStay new page at event
    by_old (inl in_rest) = (
      found,
      subst (λ (xs : List Stay). Contains xs found) (sym new_is) (Contains-append_left rest (both ∷ []) found in_rest),
      place,
      first,
      until,
      late,
    )
    by_old (inr is_last) =
        let e : last ≡ found = only last found is_last in
        let from = ap (λ (q : Stay). q.from) e in
        let ends = ap (λ (q : Stay). q.until) e in
        let of = ap (λ (q : Stay). q.place) e in
        here (subst (λ (q : Stay). IsSamePlace q.page page) (sym e) place) (omega (arith, own.0, from, first)) (omega (arith, own.1, ends, until))
        (omega (arith, places.0, of, late))

    by : Contains old found ⊎ Contains (stay ∷ []) found → HasStay new page at event
    by (inl in_old) = by_old (Contains-append_cases rest (last ∷ []) found (subst (λ (xs : List Stay). Contains xs found) old_is in_old))
    by (inr is_stay) =
        let e : stay ≡ found = only stay found is_stay in
        let from = ap (λ (q : Stay). q.from) e in
        let ends = ap (λ (q : Stay). q.until) e in
        here (same_places last.page stay.page page same (subst (λ (q : Stay). IsSamePlace q.page page) (sym e) place)) (omega (arith, other.0, from, first))
        (omega (arith, other.1, ends, until)) (let of = ap (λ (q : Stay). q.place) e in omega (arith, places.1, of, late))

  pub joined_roomy : AreRoomy old → AreRoomy new
  joined_roomy roomy =
      let in_old : (s : Stay) → Contains rest s → IsRoomy s.page =
      λ s has. roomy s (subst (λ (xs : List Stay). Contains xs s) (sym old_is) (Contains-append_left rest (last ∷ []) s has)) in
      let of_last : IsRoomy last.page =
      roomy last (subst (λ (xs : List Stay). Contains xs last) (sym old_is) (Contains-append_right rest (last ∷ []) last (0, omega arith, refl))) in
      subst AreRoomy (sym new_is) (one_more (λ (s : Stay). IsRoomy s.page) rest both in_old (subst IsRoomy (sym page_is) of_last))
