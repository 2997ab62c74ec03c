-- How addresses look after a step.
use Rattle.std.proofs.Common.{◌≡◌, ℕ, cond, Option, Some, None, IsTrue, IsFalse, refl, sym, ap, ◌∙◌, subst}
use Rattle.std.specs.FinMap as finite
use Rattle.vs_types.specs.declared.addresses.depth.Depth.{Depth}
use Rattle.vs_types.specs.declared.addresses.page.Page.{Page}
use Rattle.vs_types.specs.declared.addresses.page.Rights.{Rights}
use Rattle.vs_types.specs.declared.requests.op.Action.{Action}
use Rattle.vs_types.specs.declared.requests.op.Action.TheVariants.{Map, Unmap, Protect}
use Rattle.vs_types.specs.declared.requests.answer.Answer.{Answer}
use Rattle.vs_types.specs.declared.requests.answer.Answer.TheVariants.{Done, Removed, NotMapped, Changed}
use Rattle.vs_types.specs.Laws.{as_in, LooksChanged, HasNewRights, changes}
use Rattle.vs_types.specs.Page.{covers, IsPage}
use Rattle.vs_types.specs.Space.{Space, Holds, IsSpace, page_at, least_overlapped}
use Rattle.vs_types.specs.Step.{step, look}
use Rattle.vs_types.proofs.Maps.{get-insert_same, get-insert_other}
use Rattle.vs_types.proofs.Pages.{same_page, covers_base}
use Rattle.vs_types.proofs.Spaces.{page_at_means, page_at_after_insert, page_at_after_remove, look_of_none}
use Rattle.vs_types.proofs.Steps.{map_cases, unmap_cases, protect_cases, alone, protect_space, step_space}

-- what the new space has at an address determines how it looks
looks_changed : (page : Page) (inside : ℕ → Answer) (there : Option Page) (before after : Space)
    → ((address : ℕ) → page_at after address ≡ cond (covers page address) there (page_at before address))
    → ((address : ℕ) → page_at after address ≡ there → look after address ≡ inside address) → LooksChanged page inside before after
looks_changed page inside there before after at says = record {
  there = λ address covered. says address (at address ∙ ap (λ b. cond b there (page_at before address)) covered);
  elsewhere = λ address uncovered. same_look after before address (at address ∙ ap (λ b. cond b there (page_at before address)) uncovered);
} where
  same_look : (s t : Space) (address : ℕ) → page_at s address ≡ page_at t address → look s address ≡ look t address
  same_look s t address e = rw e

as_found : (space : Space) (page : Page) (address : ℕ) → page_at space address ≡ Some page → look space address ≡ as_in page address
as_found space page address e = rw e

pub done_fresh : {depth : Depth} (limit : ℕ) {space : Space} → IsSpace depth space → (page : Page) (address : ℕ)
    → (step depth limit space (Map page)).answer ≡ Done → IsTrue (covers page address) → look space address ≡ NotMapped
done_fresh {depth} limit {space} is page address =
    map_cases (λ s. s.answer ≡ Done → IsTrue (covers page address) → look space address ≡ NotMapped) depth limit space page
    (λ e t done covered. look_of_none space address (nothing e covered))
    (λ base e is_done. cc)
    (λ e t is_done. cc)
  where
    nothing : least_overlapped space page ≡ None → IsTrue (covers page address) → page_at space address ≡ None
    nothing e covered = elim (page_at space address) as (λ o. page_at space address ≡ o → o ≡ None) [
      | None ↦ λ at. refl
      | Some q ↦ λ at. let found = (page_at_means is address q).0 at in absurd (alone is page e q address found.0 found.1 covered)
    ] refl

pub done_looks : {depth : Depth} (limit : ℕ) {space : Space} → IsSpace depth space → (page : Page) → IsPage depth page
    → (step depth limit space (Map page)).answer ≡ Done → LooksChanged page (as_in page) space (step depth limit space (Map page)).space
done_looks {depth} limit {space} is page good =
    map_cases (λ s. IsSpace depth s.space → s.answer ≡ Done → LooksChanged page (as_in page) space s.space) depth limit space page
    (λ e t new done. looks_changed page (as_in page) (Some page) space (finite.insert space page.base page)
    (λ a. page_at_after_insert is page new (λ q holds same. absurd (meets e q holds same)) a)
    (λ a at. as_found (finite.insert space page.base page) page a at))
    (λ base e new is_done. cc)
    (λ e t new is_done. cc)
    (step_space limit is (Map page) good)
  where
    meets : least_overlapped space page ≡ None → (q : Page) → Holds space q → q.base ≡ page.base → ⊥
    meets e q holds same = alone is page e q page.base holds (subst (λ z. IsTrue (covers q z)) same (covers_base q)) (covers_base page)

pub removed_held : {depth : Depth} (limit : ℕ) {space : Space} → IsSpace depth space → (page : Page)
    → (step depth limit space (Unmap page.base)).answer ≡ Removed page.phys page.size page.rights → Holds space page
removed_held {depth} limit {space} is page =
    unmap_cases (λ s. s.answer ≡ Removed page.phys page.size page.rights → Holds space page) depth limit space page.base
    (λ e answer. cc)
    (λ p e same answer. subst (Holds space) (same_page p page same (cc) (cc) (cc)) ((page_at_means is page.base p).0 e).0)
    (λ p e differs answer. cc)

pub removed_looks : {depth : Depth} (limit : ℕ) {space : Space} → IsSpace depth space → (page : Page)
    → (step depth limit space (Unmap page.base)).answer ≡ Removed page.phys page.size page.rights
    → LooksChanged page (λ address. NotMapped) space (step depth limit space (Unmap page.base)).space
removed_looks {depth} limit {space} is page answer =
    unmap_cases (λ s. s.answer ≡ Removed page.phys page.size page.rights → LooksChanged page (λ address. NotMapped) space s.space) depth limit space page.base
    (λ e is_removed. cc)
    (λ p e same is_removed. looks_changed page (λ address. NotMapped) None space (finite.remove space page.base)
    (λ a. page_at_after_remove is page (removed_held limit is page answer) a) (λ a at. look_of_none (finite.remove space page.base) a at))
    (λ p e differs is_removed. cc)
    answer

pub changed_held : {depth : Depth} (limit : ℕ) {space : Space} → IsSpace depth space → (base : ℕ) (rights old : Rights)
    → (step depth limit space (Protect base rights)).answer ≡ Changed old
    → (page : Page) × Holds space page × (page.base ≡ base) × (page.rights ≡ old)
changed_held {depth} limit {space} is base rights old =
    protect_cases (λ s. s.answer ≡ Changed old → (page : Page) × Holds space page × (page.base ≡ base) × (page.rights ≡ old)) depth limit space base rights
    (λ e answer. cc)
    (λ p e same answer. (p, ((page_at_means is base p).0 e).0, same, cc))
    (λ p e differs answer. cc)

-- the space in which a page that is there has other rights
pub new_rights : {depth : Depth} {space : Space} → IsSpace depth space → (page : Page) → Holds space page → (rights : Rights)
    → HasNewRights page rights space (finite.insert space page.base (record page { rights = rights }))
new_rights {space = space} is page holds rights = record {
  held = holds;
  changed = get-insert_same space page.base (record page { rights = rights });
  others = λ other differs.
      let same = get-insert_other space page.base (record page { rights = rights }) other.base differs in
      (λ h. sym same ∙ h, λ h. same ∙ h);
}

-- the page at its base
found : {depth : Depth} {space : Space} → IsSpace depth space → (page : Page) → Holds space page → (p : Page) → page_at space page.base ≡ Some p → page ≡ p
found is page holds p e = let at = (page_at_means is page.base page).1 (holds, covers_base page) in cc

pub changed_pages : {depth : Depth} (limit : ℕ) {space : Space} → IsSpace depth space → (page : Page) (rights old : Rights) → Holds space page
    → (step depth limit space (Protect page.base rights)).answer ≡ Changed old
    → HasNewRights page rights space (step depth limit space (Protect page.base rights)).space
changed_pages {depth} limit {space} is page rights old holds =
    protect_cases (λ s. s.answer ≡ Changed old → HasNewRights page rights space s.space) depth limit space page.base rights
    (λ e answer. cc)
    (λ p e same answer. subst (λ (z : Page). HasNewRights page rights space (finite.insert space z.base (record z { rights = rights })))
    (found is page holds p e) (new_rights is page holds rights))
    (λ p e differs answer. cc)

pub changed_looks : {depth : Depth} (limit : ℕ) {space : Space} → IsSpace depth space → (page : Page) (rights old : Rights) → Holds space page
    → (step depth limit space (Protect page.base rights)).answer ≡ Changed old
    → LooksChanged page (as_in (record page { rights = rights })) space (step depth limit space (Protect page.base rights)).space
changed_looks {depth} limit {space} is page rights old holds =
    protect_cases (λ s. s.answer ≡ Changed old → LooksChanged page (as_in (record page { rights = rights })) space s.space) depth limit space page.base rights
    (λ e answer. cc)
    (λ p e same answer. subst
    (λ (z : Page). LooksChanged page (as_in (record page { rights = rights })) space (finite.insert space z.base (record z { rights = rights })))
    (found is page holds p e) changed)
    (λ p e differs answer. cc)
  where
    one : (q : Page) → Holds space q → q.base ≡ page.base → q ≡ page
    one q h same = let at : finite.get space page.base ≡ Some q = subst (λ z. finite.get space z ≡ Some q) same h in cc

    new : Page
    new = record page { rights = rights }

    changed : LooksChanged page (as_in (record page { rights = rights })) space (finite.insert space page.base (record page { rights = rights }))
    changed = looks_changed page (as_in new) (Some new) space (finite.insert space page.base new)
        (λ a. page_at_after_insert is new (protect_space is page rights holds) (λ q h same. ap (λ (z : Page). z.size) (one q h same)) a)
        (λ a at. as_found (finite.insert space page.base new) new a at)

pub others_leave : (depth : Depth) (limit : ℕ) (space : Space) (action : Action) → IsFalse (changes (step depth limit space action).answer)
    → (step depth limit space action).space ≡ space
others_leave depth limit space (Map page) =
    map_cases (λ s. IsFalse (changes s.answer) → s.space ≡ space) depth limit space page (λ e t h. cc) (λ base e h. refl) (λ e t h. refl)
others_leave depth limit space (Unmap base) =
    unmap_cases (λ s. IsFalse (changes s.answer) → s.space ≡ space) depth limit space base (λ e h. refl) (λ page e t h. cc) (λ page e t h. refl)
others_leave depth limit space (Protect base rights) =
    protect_cases (λ s. IsFalse (changes s.answer) → s.space ≡ space) depth limit space base rights (λ e h. refl) (λ page e t h. cc) (λ page e t h. refl)
