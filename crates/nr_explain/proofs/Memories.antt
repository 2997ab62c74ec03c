-- Where a space has memory.
use Rattle.std.proofs.Common.{◌≡◌, ℕ, ◌+◌, ◌-◌, ◌^◌, ◌<◌, ◌≤◌, Contains, IsTrue, Option, Some, None, refl, sym, ap, ◌∙◌, arith}
use Rattle.std.specs.Prelude.{IfNone, IfSome}
use Rattle.vs_types.specs.Page.{bytes_of, covers, IsPage}
use Rattle.vs_types.specs.Space.{Space, IsSpace, page_at, pages}
use Rattle.vs_types.specs.Step.{look_in_page}
use Rattle.vs_types.specs.declared.requests.answer.Answer.TheVariants.{Mapped}
use Rattle.vs_types.specs.declared.addresses.depth.Depth.{Depth}
use Rattle.vs_types.specs.declared.addresses.page.Page.{Page}
use Rattle.vs_types.specs.declared.addresses.page.TheConstants.Page.{PHYS_END}
use Rattle.vs_types.proofs.Pages.{canonical_fits, covered_canonical, covers_means}
use Rattle.vs_types.proofs.Spaces.{holds_listed, page_at_means}
use Rattle.nr_explain.specs.Nearest.{IsWhere, Translates}
use Rattle.nr_explain.specs.inside.Nearest.{LeadsTo}

module _ (page : Page) (phys : ℕ) where
  module _ (low : page.phys ≤ phys) (within : phys - page.phys < bytes_of page.size) where
    here_covered : IsTrue (covers page (page.base + (phys - page.phys)))
    here_covered = (covers_means page (page.base + (phys - page.phys))).1 (omega arith, omega (arith, within))

    pub address_leads : LeadsTo page (page.base + (phys - page.phys)) phys
    address_leads = record { covered = here_covered; leads = omega (arith, low) }

    pub address_fits : (depth : Depth) × IsPage depth page → page.base + (phys - page.phys) < 2 ^ 64
    address_fits (depth, good) =
        canonical_fits depth (page.base + (phys - page.phys)) (covered_canonical PHYS_END depth page (page.base + (phys - page.phys)) good here_covered)

module _ {depth : Depth} {space : Space} (is : IsSpace depth space) where
  pub page_listed : (page : Page) → Contains (pages space) page → (d : Depth) × IsPage d page
  page_listed page there = (depth, is.well_formed page ((holds_listed is page).0 there))

  -- an address that is translated is one of a page
  translated : (address phys : ℕ) → Translates space address phys → (page : Page) × Contains (pages space) page × LeadsTo page address phys
  translated address phys (size, rights, looks) =
      elim (page_at space address) as (λ o. page_at space address ≡ o → (page : Page) × Contains (pages space) page × LeadsTo page address phys) [
        | None ↦ λ at. let missed = sym (ap (look_in_page address) at) ∙ looks in absurd (cc)
        | Some page ↦ λ at.
            let same : Mapped (page.phys + (address - page.base)) page.size page.rights ≡ Mapped phys size rights =
            sym (ap (look_in_page address) at) ∙ looks in
            let there = (page_at_means is address page).0 at in
            (page, (holds_listed is page).1 there.0, record { covered = there.1; leads = cc })
      ] refl

  -- an address of a page is translated
  leads_there : (page : Page) (address phys : ℕ) → Contains (pages space) page → LeadsTo page address phys → Translates space address phys
  leads_there page address phys there to =
      let at = (page_at_means is address page).1 ((holds_listed is page).0 there, to.covered) in
      (page.size, page.rights, ap (look_in_page address) at ∙ ap (λ n. Mapped n page.size page.rights) to.leads)

  pub where_found : (phys : ℕ) (found : Option ℕ)
      → IfNone found ((page : Page) → Contains (pages space) page → (address : ℕ) → LeadsTo page address phys → ⊥)
      → IfSome found (λ address. (page : Page) × Contains (pages space) page × LeadsTo page address phys) → IsWhere space phys found
  where_found phys None none some = λ address is_so.
      let (page, there, to) = translated address phys is_so in none page there address to
  where_found phys (Some address) none some = let (page, there, to) = some in leads_there page address phys there to
