-- After an unmap or a protect, addresses off its page are walked as before.
use Rattle.std.proofs.Common.{◌≡◌, ℕ, ◌+◌, ◌*◌, ◌/◌, true, false, cond, Option, Some, None, ◌⊎◌, inl, inr, ⊎_elim, refl, sym, ap, subst, ◌∙◌}
use Rattle.std.specs.FinMap as finite
use Rattle.vs_types.specs.Page.{bytes_of, level_of, covers}
use Rattle.vs_types.specs.Space.{Space, IsSpace, Holds, page_at}
use Rattle.vs_types.specs.Step.{step, look, look_in_page}
use Rattle.vs_types.specs.declared.addresses.depth.Depth.{Depth}
use Rattle.vs_types.specs.declared.requests.op.Action.TheVariants.{Unmap, Protect}
use Rattle.vs_types.specs.declared.addresses.page.Page.{Page}
use Rattle.vs_types.specs.declared.addresses.page.Rights.{Rights}
use Rattle.vs_types.proofs.Pages.{covers_means}
use Rattle.vs_types.proofs.Spaces.{page_at_means, page_at_after_insert, page_at_after_remove, look_same, look_of_none}
use Rattle.vs_types.proofs.Steps.{unmap_cases, protect_cases, protect_space}
use Rattle.vs_walk.specs.Memory.{Memory}
use Rattle.vs_walk.specs.Walk.{walk, as_walk, TranslatesAs}
use Rattle.vs_walk.specs.declared.walk.Walk.TheVariants.{Mapped}
use Rattle.vs_space.proofs.Regions.{in_block}
use Rattle.vs_plan.proofs.Stays.{ChangesPageAlone, mapped_same}

-- an address of a page has the quotient of its base
pub in_page : {depth : Depth} {space : Space} → IsSpace depth space → (page : Page) (address : ℕ) → Holds space page → covers page address ≡ true
    → address / bytes_of page.size ≡ page.base / bytes_of page.size
in_page is page address holds covered =
    let at = (covers_means page address).0 covered in
    sym (in_block (3 + 9 * level_of page.size) page.base address (is.well_formed page holds).aligned at.0 at.1)

-- an address looks as before, or is one of the page at this base
abbrev pub LooksApart : Space → Space → ℕ → ℕ → Type 0
LooksApart before after base address = (page : Page) → page_at before address ≡ Some page
    → (look after address ≡ look before address) ⊎ (address / bytes_of page.size ≡ base / bytes_of page.size)

-- by the page at the base, in whose place there is another, or none
apart_by : {depth : Depth} {before : Space} (after : Space) → IsSpace depth before → (q : Page) (other : Option Page) (base address : ℕ) → Holds before q
    → q.base ≡ base → page_at after address ≡ cond (covers q address) other (page_at before address) → LooksApart before after base address
apart_by {depth} {before} after is q other base address holds same changed page at =
    elim (covers q address) as (λ b. covers q address ≡ b
    → (look after address ≡ look before address) ⊎ (address / bytes_of page.size ≡ base / bytes_of page.size)) [
      | true ↦ λ covered.
          let there = (page_at_means is address page).0 at in
          let one : page ≡ q = is.apart page q address there.0 holds there.1 covered in
          inr (subst (λ (p : Page). address / bytes_of p.size ≡ base / bytes_of p.size) (sym one)
          (in_page is q address holds covered ∙ ap (λ b. b / bytes_of q.size) same))
      | false ↦ λ off. inl (look_same after before address (changed ∙ ap (λ b. cond b other (page_at before address)) off))
    ] refl

pub unmap_apart : {depth : Depth} {space : Space} → IsSpace depth space → (limit base address : ℕ)
    → LooksApart space (step depth limit space (Unmap base)).space base address
unmap_apart {depth} {space} is limit base address =
    unmap_cases (λ s. LooksApart space s.space base address) depth limit space base
    (λ e page at. inl refl)
    (λ q e same.
    let there = (page_at_means is base q).0 e in
    subst (λ b. LooksApart space (finite.remove space b) base address) same
    (apart_by (finite.remove space q.base) is q None base address there.0 same (page_at_after_remove is q there.0 address)))
    (λ q e differs page at. inl refl)

pub protect_apart : {depth : Depth} {space : Space} → IsSpace depth space → (limit base : ℕ) (rights : Rights) (address : ℕ)
    → LooksApart space (step depth limit space (Protect base rights)).space base address
protect_apart {depth} {space} is limit base rights address =
    protect_cases (λ s. LooksApart space s.space base address) depth limit space base rights
    (λ e page at. inl refl)
    (λ q e same.
    let there = (page_at_means is base q).0 e in
    apart_by (finite.insert space q.base (record q { rights = rights })) is q (Some (record q { rights = rights })) base address there.0 same
    (page_at_after_insert is (record q { rights = rights }) (protect_space is q rights there.0)
    (λ p h s. ap (λ (z : Page). z.size) (one q p there.0 h s)) address))
    (λ q e differs page at. inl refl)
  where
    one : (q p : Page) → Holds space q → Holds space p → p.base ≡ q.base → p ≡ q
    one q p here h same = let at : finite.get space q.base ≡ Some p = subst (λ z. finite.get space z ≡ Some p) same h in cc

-- walks, by what the two memories translate as
pub changes_alone : (depth : Depth) (old new : Memory) (root : ℕ) (before after : Space) (base : ℕ) → TranslatesAs depth old root before
    → TranslatesAs depth new root after → ((address : ℕ) → LooksApart before after base address) → ChangesPageAlone depth root old new base
changes_alone depth old new root before after base is_before is_after apart address phys size rights canonical mapped =
    by (page_at before address) refl where
      walked : as_walk (look before address) ≡ Mapped phys size rights
      walked = sym (is_before address canonical) ∙ mapped

      by : (o : Option Page) → page_at before address ≡ o
          → (walk depth new root address ≡ walk depth old root address) ⊎ (address / bytes_of size ≡ base / bytes_of size)
      by None at = let nothing = sym (ap as_walk (look_of_none before address at)) ∙ walked in absurd (cc)
      by (Some page) at =
          let found : as_walk (look_in_page address (Some page)) ≡ Mapped phys size rights =
          sym (ap (λ (o : Option Page). as_walk (look_in_page address o)) at) ∙ walked in
          ⊎_elim
          (λ same. inl (is_after address canonical ∙ ap as_walk same ∙ sym (is_before address canonical)))
          (λ there. inr (subst (λ s. address / bytes_of s ≡ base / bytes_of s) (mapped_same found).1 there))
          (apart address page at)
