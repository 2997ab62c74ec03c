-- The pages that no change begins at stay; whether some change begins where a page does; and the page that begins at a base.
use Rattle.std.proofs.Common.{◌≡◌, ◌≢◌, ℕ, ◌+◌, ◌-◌, ◌%◌, ◌⊎◌, inl, inr, List, [], ◌∷◌, Some, None, Contains, refl, sym, ap, ◌∙◌, subst, arith}
use Rattle.std.specs.FinMap as finite
use Rattle.std.proofs.lemmas.Bool.{cases_eq}
use Rattle.vs_types.specs.Page.{bytes_of}
use Rattle.vs_types.specs.Space.{Space, Holds, IsSpace, page_at}
use Rattle.vs_types.specs.Step.{look, look_in_page}
use Rattle.vs_types.specs.declared.requests.answer.Answer.TheVariants.{Mapped}
use Rattle.vs_types.specs.declared.addresses.depth.Depth.{Depth}
use Rattle.vs_types.specs.declared.addresses.page.Page.{Page}
use Rattle.vs_types.specs.declared.addresses.page.Size.{Size}
use Rattle.vs_types.proofs.Maps.{get-remove_other}
use Rattle.vs_types.proofs.Pages.{covers_base, covers_means, same_aligned, same_page}
use Rattle.vs_types.proofs.Spaces.{page_at_means}
use Rattle.nr_touch.specs.inside.Indexed.{HasOwn, HavePresent}
use Rattle.nr_touch.specs.inside.Reached.{IsRoomy}
use Rattle.nr_touch.specs.inside.Undo.{LeadsTo}
use Rattle.nr_touch.specs.declared.changes.change.Change.{Change}
use Rattle.nr_touch.specs.declared.changes.change.PlacedChange.{PlacedChange}
use Rattle.nr_touch.specs.declared.touches.joined.Joined.{Joined}
use Rattle.vs_types.proofs.Lists.{Contains-cases, Contains-head, Contains-tail, not_in_nil}
use Rattle.nr_touch.proofs.Replayed.{page_ends}

pub still_there : (depth : Depth) (start : Space) (changes : List Change) (after : Space) → LeadsTo depth start changes after → (page : Page)
    → ((c : Change) → Contains changes c → c.page.base ≡ page.base → ⊥) → Holds after page → Holds start page
still_there depth start [] after same page none holds = subst (λ (s : Space). Holds s page) (sym same) holds
still_there depth start (change ∷ changes) after (next, from, rest) page none holds =
    let then : Holds next page = still_there depth next changes after rest page (λ c has. none c (Contains-tail change changes c has)) holds in
    let differs : page.base ≢ change.page.base = λ e. none change (Contains-head change changes) (sym e) in
    sym (get-remove_other start change.page.base page.base differs)
    ∙ ap (λ (s : Space). finite.get s page.base) (sym from.changed.elsewhere)
    ∙ get-remove_other next change.page.base page.base differs
    ∙ then

pub own_or_not : (changes : List PlacedChange) (page : Page) → HasOwn changes page ⊎ (HasOwn changes page → ⊥)
own_or_not [] page = inr (λ own. not_in_nil own.0 own.1)
own_or_not (change ∷ changes) page = elim (cases_eq change.change.page.base page.base) [
  | inl same ↦ inl (change, Contains-head change changes, same)
  | inr differs ↦ elim (own_or_not changes page) [
    | inl own ↦ inl (own.0, Contains-tail change changes own.0 own.1, own.2)
    | inr none ↦ inr (λ own. elim (Contains-cases change changes own.0 own.1) [
      | inl first ↦ differs (ap (λ (c : PlacedChange). c.change.page.base) first ∙ own.2)
      | inr later ↦ none (own.0, later, own.2)
    ])
  ]
]

-- the same pages by the same changes, listed elsewhere
pub present_as : (joined : Joined) (listed : List PlacedChange) (present other : List Page) → listed ≡ joined.history.changes.items → other ≡ present
    → ((page : Page) → Holds joined.space.space page → HasOwn listed page → Contains present page) → HavePresent joined other
present_as joined listed present other is same all page holds own =
    subst (λ (xs : List Page). Contains xs page) (sym same) (all page holds (subst (λ (cs : List PlacedChange). HasOwn cs page) (sym is) own))

-- ---- the page that begins at a base

module _ {depth : Depth} {space : Space} (is : IsSpace depth space) where
  -- how the base of a page looks
  pub looks_begun : (page : Page) (base : ℕ) → Holds space page → page.base ≡ base → look space base ≡ Mapped page.phys page.size page.rights
  looks_begun page base holds begins =
      let at : page_at space page.base ≡ Some page = (page_at_means is page.base page).1 (holds, covers_base page) in
      let same : page.phys + (page.base - page.base) ≡ page.phys = omega arith in
      subst (λ (b : ℕ). look space b ≡ Mapped page.phys page.size page.rights) begins
      (ap (look_in_page page.base) at ∙ ap (λ (n : ℕ). Mapped n page.size page.rights) same)

  -- what looks mapped at a multiple of its size is a page that begins there
  pub begun : (page : Page) → look space page.base ≡ Mapped page.phys page.size page.rights → page.base % bytes_of page.size ≡ 0 → Holds space page
  begun page looks aligned =
      elim (page_at space page.base) as (λ o. page_at space page.base ≡ o → look_in_page page.base o ≡ Mapped page.phys page.size page.rights
      → Holds space page) [
        | None ↦ λ at e. absurd (cc)
        | Some own ↦ λ at e.
            let (holds, covered) = (page_at_means is page.base own).0 at in
            let (low, high) = (covers_means own page.base).0 covered in
            let good = is.well_formed own holds in
            let size_is : own.size ≡ page.size = cc in
            let phys_is : own.phys + (page.base - own.base) ≡ page.phys = cc in
            let rights_is : own.rights ≡ page.rights = cc in
            let of_own : page.base % bytes_of own.size ≡ 0 = subst (λ (s : Size). page.base % bytes_of s ≡ 0) (sym size_is) aligned in
            let begins : own.base ≡ page.base = same_aligned own.size page.base own.base of_own good.aligned low high in
            let same : own.phys ≡ page.phys = omega (arith, phys_is, begins) in
            subst (λ (q : Page). Holds space q) (same_page own page begins size_is same rights_is) holds
      ] refl looks

  -- a page begins at a multiple of its size, and has room
  pub aligned_page : (page : Page) → Holds space page → page.base % bytes_of page.size ≡ 0
  aligned_page page holds = let good = is.well_formed page holds in good.aligned

  pub roomy_page : (page : Page) → Holds space page → IsRoomy page
  roomy_page page holds =
      let good = is.well_formed page holds in
      record {
        base = good.aligned;
        frame = good.phys_aligned;
        ends = page_ends depth page good;
        low = let range = good.phys_range in omega (arith, range);
      }
