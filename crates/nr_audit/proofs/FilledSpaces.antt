-- The space of some pages, by rising base.
use Rattle.std.proofs.Common.{◌≡◌, ℕ, zero, suc, ◌+◌, ◌<◌, true, false, cond, List, [], ◌∷◌, ◌++◌, length, take, get_or, Some, None, inl, inr, refl, sym}
use Rattle.std.proofs.Common.{ap, subst, ◌∙◌, arith, Contains}
use Rattle.std.specs.Prelude.{IsTrue}
use Rattle.std.specs.FinMap as finite
use Rattle.std.specs.FinMap.{nat_cmp-IsAntisymmetric}
use Rattle.std.specs.FinMap.Entries as entries
use Rattle.std.specs.Ordering.{nat_cmp, eq_by_cmp}
use Rattle.std.specs.Cmp.{nat_cmp_total}
use Rattle.std.proofs.lemmas.Bool.{eq-eqb}
use Rattle.std.proofs.lemmas.List.{get_or_default, take_more}
use Rattle.std.proofs.lemmas.List.Elements.{All-contains, All-contains_itself, All-weaker}
use Rattle.vs_types.specs.Page.{covers, IsPage}
use Rattle.vs_types.specs.Space.{Space, Holds, IsSpace, pages, least_overlapped}
use Rattle.vs_types.specs.declared.addresses.depth.Depth.{Depth}
use Rattle.vs_types.specs.declared.addresses.page.Page.{Page}
use Rattle.vs_types.proofs.Lists.{Contains-cases, not_in_nil}
use Rattle.vs_types.proofs.Overlaps.{none_overlapped}
use Rattle.vs_types.proofs.Pages.{overlaps_shares}
use Rattle.vs_types.proofs.Spaces.{same_key, holds_listed}
use Rattle.vs_walk.proofs.LawsOfSpaces.{space_rises}
use Rattle.vs_walk.proofs.LawsOfFoundSpaces.{found_under, under_bases}
use Rattle.nr_audit.specs.Start.{space_of_pages}
use Rattle.nr_audit.specs.inside.Begun.{AreApart}

-- a page of the space is one of them
pub held_in : (ps : List Page) (page : Page) → Holds (space_of_pages ps) page → Contains ps page
held_in ps page held = (found_under page.base ps page (sym (finite.get-from_entries nat_cmp_total (under_bases ps) page.base) ∙ held)).1

-- none is found at a base that none has
none_under : (base : ℕ) (ps : List Page) → ((q : Page) → Contains ps q → q.base ≡ base → ⊥) → entries.find nat_cmp base (under_bases ps) ≡ None
none_under base ps none =
    elim (entries.find nat_cmp base (under_bases ps)) as (λ o. entries.find nat_cmp base (under_bases ps) ≡ o → o ≡ None) [
      | None ↦ λ e. refl
      | Some q ↦ λ e. let at = found_under base ps q e in absurd (none q at.1 at.0)
    ] refl

map_append : (ps qs : List Page) → under_bases (ps ++ qs) ≡ under_bases ps ++ under_bases qs
map_append [] qs = refl
map_append (p ∷ ps) qs = ap (λ es. (p.base, p) ∷ es) (map_append ps qs)

-- a page more, with a base of its own
pub one_more : (ps : List Page) (page : Page) → ((q : Page) → Contains ps q → q.base ≡ page.base → ⊥)
    → space_of_pages (ps ++ page ∷ []) ≡ finite.insert (space_of_pages ps) page.base page
one_more ps page none =
    ap (finite.from_entries {R = nat_cmp}) (map_append ps (page ∷ []))
    ∙ finite.from_entries_push nat_cmp_total nat_cmp-IsAntisymmetric (under_bases ps) page.base page (none_under page.base ps none)

-- a page that has an address of none of them overlaps none
pub free_of : {depth : Depth} (ps : List Page) (page : Page) → IsSpace depth (space_of_pages ps)
    → ((q : Page) (address : ℕ) → Contains ps q → IsTrue (covers page address) → IsTrue (covers q address) → ⊥)
    → least_overlapped (space_of_pages ps) page ≡ None
free_of ps page is apart = none_overlapped is page (λ r held over.
    let shared = (overlaps_shares page r).0 over in
    apart r shared.0 (held_in ps r held) shared.1 shared.2)

-- a page of a list is found at its base, or another is
held_under : (ps : List Page) (page : Page) → Contains ps page → entries.find nat_cmp page.base (under_bases ps) ≡ None → ⊥
held_under [] page h e = not_in_nil page h
held_under (p ∷ ps) page h e =
    elim (eq_by_cmp nat_cmp page.base p.base) as (λ b. eq_by_cmp nat_cmp page.base p.base ≡ b
    → cond b (Some p) (entries.find nat_cmp page.base (under_bases ps)) ≡ None → ⊥) [
      | true ↦ λ t is. cc
      | false ↦ λ t is. elim (Contains-cases p ps page h) [
        | inl same ↦ (let own : eq_by_cmp nat_cmp page.base p.base ≡ true =
            same_key page.base p.base ∙ eq-eqb page.base p.base (ap (λ (z : Page). z.base) (sym same)) in cc)
        | inr later ↦ held_under ps page later is
      ]
    ] refl e

missing : {depth : Depth} {space : Space} → IsSpace depth space → (q : ℕ) (page : Page) → finite.get space q ≡ Some page
    → entries.find nat_cmp q (under_bases (pages space)) ≡ None → ⊥
missing {depth} {space} is q page g e =
    let own = is.under_base q page g in
    let holds : Holds space page = subst (λ base. finite.get space base ≡ Some page) (sym own) g in
    held_under (pages space) page ((holds_listed is page).1 holds) (subst (λ base. entries.find nat_cmp base (under_bases (pages space)) ≡ None) (sym own) e)

-- pages no two of which cover one address are a space
space_is : {depth : Depth} (ps : List Page) → ((p : Page) → Contains ps p → IsPage depth p)
    → ((p q : Page) (address : ℕ) → Contains ps p → Contains ps q → IsTrue (covers p address) → IsTrue (covers q address) → p ≡ q)
    → IsSpace depth (space_of_pages ps)
space_is ps formed apart = record {
  under_base = λ base page held. (found_under base ps page (sym (finite.get-from_entries nat_cmp_total (under_bases ps) base) ∙ held)).0;
  well_formed = λ page held. formed page (held_in ps page held);
  apart = λ p q address in_p in_q. apart p q address (held_in ps p in_p) (held_in ps q in_q);
}

-- an element of a front of a list, by its index
taken : {X : Type 0} (k : ℕ) (xs : List X) (x : X) → Contains (take k xs) x → (j : ℕ) × (j < k) × (j < length xs) × (get_or xs j x ≡ x)
taken (suc k) (y ∷ ys) x (zero, lt, is) = (0, omega arith, omega arith, is)
taken (suc k) (y ∷ ys) x (suc j, lt, is) =
    let there = taken k ys x (j, omega arith, is) in (suc there.0, omega (arith, there.1), omega (arith, there.2), there.3)
taken _ _ x (j, lt, is) = absurd (omega arith)

module _ {depth : Depth} (ps : List Page) (k : ℕ) (d : Page) (lt : k < length ps) (are : AreApart depth ps) where
  here : Contains ps (get_or ps k d)
  here = (k, lt, get_or_default ps k (get_or ps k d) d lt)

  -- a page before it has a lower base
  lower_base : (q : Page) → Contains (take k ps) q → q.base < (get_or ps k d).base
  lower_base q in_front =
      let there = taken k ps q in_front in
      let rises = are.rise there.0 k q there.1 lt in
      subst (λ (p : Page). q.base < p.base) (get_or_default ps k q d lt) (subst (λ (p : Page). p.base < (get_or ps k q).base) there.3 rises)

  in_all : (q : Page) → Contains (take k ps) q → Contains ps q
  in_all q in_front = let there = taken k ps q in_front in (there.0, there.2, there.3)

  pub free_next : least_overlapped (space_of_pages (take k ps)) (get_or ps k d) ≡ None
  free_next =
      free_of {depth = depth} (take k ps) (get_or ps k d)
      (space_is (take k ps) (λ p in_p. All-contains (IsPage depth) ps p are.well_formed (in_all p in_p))
      (λ p q address in_p in_q. are.apart p q address (in_all p in_p) (in_all q in_q)))
      (λ q address in_q in_page in_other.
      let same = are.apart q (get_or ps k d) address (in_all q in_q) here in_other in_page in
      let base : q.base ≡ (get_or ps k d).base = ap (λ (p : Page). p.base) same in
      let low = lower_base q in_q in
      omega arith)

  pub filled_more : space_of_pages (take (k + 1) ps) ≡ finite.insert (space_of_pages (take k ps)) (get_or ps k d).base (get_or ps k d)
  filled_more =
      ap space_of_pages (take_more ps k d lt)
      ∙ one_more (take k ps) (get_or ps k d) (λ q in_q same. let low = lower_base q in_q in omega arith)

-- what a space holds is found under its base
found_page : {depth : Depth} {space : Space} → IsSpace depth space → (q : ℕ) → entries.find nat_cmp q (under_bases (pages space)) ≡ finite.get space q
found_page {depth} {space} is q =
    elim (entries.find nat_cmp q (under_bases (pages space))) as (λ o. entries.find nat_cmp q (under_bases (pages space)) ≡ o → o ≡ finite.get space q) [
      | None ↦ λ e. elim (finite.get space q) as (λ o. finite.get space q ≡ o → None ≡ o) [
        | None ↦ λ g. refl
        | Some page ↦ λ g. absurd (missing is q page g e)
      ] refl
      | Some page ↦ λ e.
          let at = found_under q (pages space) page e in
          sym (subst (λ base. finite.get space base ≡ Some page) at.0 ((holds_listed is page).0 at.1))
    ] refl

-- the space of the pages of a space is that space
pub of_own_pages : {depth : Depth} {space : Space} → IsSpace depth space → space_of_pages (pages space) ≡ space
of_own_pages {depth} {space} is = finite.same_map nat_cmp_total nat_cmp-IsAntisymmetric (space_of_pages (pages space)) space (λ q.
    finite.get-from_entries nat_cmp_total (under_bases (pages space)) q ∙ found_page is q)

-- the pages of a space are apart
pub own_apart : {depth : Depth} {space : Space} → IsSpace depth space → AreApart depth (pages space)
own_apart {depth} {space} is = record {
  well_formed =
      All-weaker (Contains (pages space)) (IsPage depth) (λ page h. is.well_formed page ((holds_listed is page).0 h)) (pages space)
      (All-contains_itself (pages space));
  rise = space_rises is;
  apart = λ p q address in_p in_q. is.apart p q address ((holds_listed is p).0 in_p) ((holds_listed is q).0 in_q);
}
