-- What a step of a space changes: one page, or no address looks otherwise.
use Rattle.std.proofs.Common.{◌≡◌, ◌≢◌, ◌↔◌, ℕ, ◌+◌, ◌-◌, cond, Bool, true, false, ◌⊎◌, inl, inr, Option, Some, None, IsSomeAnd, IsTrue, refl, sym, ap, ◌∙◌, subst, arith}
use Rattle.std.proofs.lemmas.Option.{same_Some}
use Rattle.std.specs.FinMap as finite
use Rattle.std.proofs.lemmas.Bool.Decides.{Decides-like}
use Rattle.vs_types.specs.declared.addresses.depth.Depth.{Depth}
use Rattle.vs_types.specs.declared.addresses.page.Page.{Page}
use Rattle.vs_types.specs.declared.addresses.page.Rights.{Rights}
use Rattle.vs_types.specs.declared.requests.op.Action.TheVariants.{Map, Unmap, Protect}
use Rattle.vs_types.specs.declared.requests.answer.Answer.{Answer}
use Rattle.vs_types.specs.declared.requests.answer.Answer.TheVariants.{Done, Removed, Changed, Mapped}
use Rattle.vs_types.specs.Page.{covers, IsPage}
use Rattle.vs_types.specs.Space.{Space, Holds, IsSpace, page_at, least_overlapped}
use Rattle.vs_types.specs.Step.{step, look, look_in_page}
use Rattle.vs_types.proofs.Pages.{covers_base}
use Rattle.vs_types.proofs.Spaces.{page_at_means, page_at_after_insert, page_at_after_remove}
use Rattle.vs_types.proofs.Steps.{map_cases, unmap_cases, protect_cases, alone, protect_space, step_space}
use Rattle.nr_touch.specs.Touches.{Includes, IsTaken, StillHas}
use Rattle.nr_touch.specs.inside.Changes.{page_before, IsChange, IsPageChange}
use Rattle.nr_touch.specs.declared.changes.change.Change.{Change}
use Rattle.nr_touch.proofs.SamePages.{page_or_not}
use Rattle.nr_touch.proofs.Tests.{no, yes}
use Rattle.nr_touch.proofs.Undone.{insert_elsewhere, remove_elsewhere}

abbrev fresh : Page → Change
fresh page = record { page = page; was_mapped = false; takes = false }

abbrev there : Page → Bool → Change
there page takes = record { page = page; was_mapped = true; takes = takes }

-- ---- what is taken away

pub none_taken : (after : Option Page) → IsTaken None after → ⊥
none_taken after it = let was : None ≡ Some it.page = it.was in cc

gone_taken : (page : Page) → IsTaken (Some page) None
gone_taken page = record { page = page; was = refl; gone = λ still. let is : None ≡ Some (record page { rights = still.rights }) = still.is in cc }

-- a page with other rights is taken from just if these lack one that it had
less_taken : (page : Page) (rights : Rights) → IsTaken (Some page) (Some (record page { rights = rights })) ↔ (Includes page.rights rights → ⊥)
less_taken page rights = (
  λ it more.
      let same : page ≡ it.page = same_Some page it.page it.was in
      it.gone (subst (λ (q : Page). StillHas q (Some (record page { rights = rights }))) same (record { rights = rights; is = refl; more = more })),
  λ less. record {
    page = page;
    was = refl;
    gone = λ still.
        let same : rights ≡ still.rights =
        ap (λ (q : Page). q.rights) (same_Some (record page { rights = rights }) (record page { rights = still.rights }) still.is) in
        less (subst (Includes page.rights) (sym same) still.more);
  },
)

module _ {depth : Depth} (limit : ℕ) {space : Space} (is : IsSpace depth space) where
  unchanged : (after : Space) (result : Option Change) → after ≡ space → result ≡ None → IsChange depth space after result
  unchanged after result same none = subst (IsChange depth space after) (sym none) (λ a. ap (λ s. page_at s a) (sym same))

  -- ---- a map

  nothing : (page : Page) → least_overlapped space page ≡ None → (a : ℕ) → IsTrue (covers page a) → page_at space a ≡ None
  nothing page e a covered = elim (page_at space a) as (λ o. page_at space a ≡ o → o ≡ None) [
    | None ↦ λ at. refl
    | Some q ↦ λ at. let found = (page_at_means is a q).0 at in absurd (alone is page e q a found.0 found.1 covered)
  ] refl

  -- where the addresses of a page look otherwise afterwards, and no others
  page_change : (change : Change) (after : Space) (new : Option Page) → IsPage depth change.page
      → ((a : ℕ) → page_at after a ≡ cond (covers change.page a) new (page_at space a))
      → ((a : ℕ) → IsTrue (covers change.page a) → page_at space a ≡ page_before change) → page_before change ≢ new
      → IsTrue change.takes ↔ IsTaken (page_before change) new → finite.remove after change.page.base ≡ finite.remove space change.page.base
      → IsPageChange depth space after change
  page_change change after new good at was apart taken elsewhere = record {
    well_formed = good;
    was = was;
    differs = λ a covered same. apart (sym (was a covered) ∙ same ∙ here a covered);
    takes = λ a covered. subst (λ o. IsTrue change.takes ↔ IsTaken o (page_at after a)) (sym (was a covered))
        (subst (λ o. IsTrue change.takes ↔ IsTaken (page_before change) o) (sym (here a covered)) taken);
    others = λ a uncovered. sym (at a ∙ ap (λ b. cond b new (page_at space a)) uncovered);
    elsewhere = elsewhere;
  } where
    here : (a : ℕ) → IsTrue (covers change.page a) → page_at after a ≡ new
    here a covered = at a ∙ ap (λ b. cond b new (page_at space a)) covered

  pub added : (page : Page) → IsPage depth page → least_overlapped space page ≡ None → IsSpace depth (finite.insert space page.base page)
      → IsPageChange depth space (finite.insert space page.base page) (fresh page)
  added page good e new =
      page_change (fresh page) (finite.insert space page.base page) (Some page) good
      (page_at_after_insert is page new (λ q holds same. absurd (meets q holds same))) (nothing page e) (λ same. cc) (no (none_taken (Some page)))
      (insert_elsewhere space page.base page) where
        meets : (q : Page) → Holds space q → q.base ≡ page.base → ⊥
        meets q holds same = alone is page e q page.base holds (subst (λ z. IsTrue (covers q z)) same (covers_base q)) (covers_base page)

  pub map_change : (page : Page) → IsPage depth page → (answer : Answer) (after : Space) (result : Option Change)
      → (answer ≡ Done → result ≡ Some (fresh page)) → (answer ≢ Done → result ≡ None)
      → answer ≡ (step depth limit space (Map page)).answer → after ≡ (step depth limit space (Map page)).space
      → IsChange depth space after result
  map_change page good answer after result found none =
      map_cases (λ s. IsSpace depth s.space → answer ≡ s.answer → after ≡ s.space → IsChange depth space after result) depth limit space page
      (λ e t new told same. subst (IsChange depth space after) (sym (found told))
      (subst (λ s. IsPageChange depth space s (fresh page)) (sym same) (added page good e new)))
      (λ base e new told same. unchanged after result same (none (λ done. cc)))
      (λ e t new told same. unchanged after result same (none (λ done. cc)))
      (step_space limit is (Map page) good)

  -- ---- an unmap

  pub gone : (page : Page) → Holds space page → IsPageChange depth space (finite.remove space page.base) (there page true)
  gone page holds =
      page_change (there page true) (finite.remove space page.base) None (is.well_formed page holds) (page_at_after_remove is page holds)
      (λ a covered. (page_at_means is a page).1 (holds, covered)) (λ same. cc) (yes (gone_taken page)) (remove_elsewhere space page.base)

  pub unmap_change : (base : ℕ) (answer : Answer) (after : Space) (result : Option Change)
      → ((page : Page) → page.base ≡ base → answer ≡ Removed page.phys page.size page.rights → result ≡ Some (there page true))
      → (((page : Page) → answer ≢ Removed page.phys page.size page.rights) → result ≡ None)
      → answer ≡ (step depth limit space (Unmap base)).answer → after ≡ (step depth limit space (Unmap base)).space
      → IsChange depth space after result
  unmap_change base answer after result found none =
      unmap_cases (λ s. answer ≡ s.answer → after ≡ s.space → IsChange depth space after result) depth limit space base
      (λ e told same. unchanged after result same (none (λ page removed. cc)))
      (λ page e begins told same. subst (IsChange depth space after) (sym (found page begins told))
      (subst (λ s. IsPageChange depth space s (there page true)) (sym (same ∙ ap (finite.remove space) (sym begins)))
      (gone page ((page_at_means is base page).0 e).0)))
      (λ page e differs told same. unchanged after result same (none (λ page removed. cc)))

  -- ---- a protect

  module _ (page : Page) (holds : Holds space page) (rights : Rights) where
    abbrev other : Page
    other = record page { rights = rights }

    one : (q : Page) → Holds space q → q.base ≡ page.base → q ≡ page
    one q h same = let at : finite.get space page.base ≡ Some q = subst (λ z. finite.get space z ≡ Some q) same h in cc

    at : (a : ℕ) → page_at (finite.insert space page.base other) a ≡ cond (covers page a) (Some other) (page_at space a)
    at a = page_at_after_insert is other (protect_space is page rights holds) (λ q h same. ap (λ (z : Page). z.size) (one q h same)) a

    protected : (takes : Bool) → page ≢ other → IsTrue takes ↔ (Includes page.rights rights → ⊥)
        → IsPageChange depth space (finite.insert space page.base other) (there page takes)
    protected takes apart less =
        page_change (there page takes) (finite.insert space page.base other) (Some other) (is.well_formed page holds) at
        (λ a covered. (page_at_means is a page).1 (holds, covered)) (λ same. apart (same_Some page other same))
        (Decides-like takes (less_taken page rights).1 (less_taken page rights).0 less) (insert_elsewhere space page.base other)

    kept : page ≡ other → (a : ℕ) → page_at space a ≡ page_at (finite.insert space page.base other) a
    kept same a = elim (covers page a) as (λ b. covers page a ≡ b → page_at space a ≡ page_at (finite.insert space page.base other) a) [
      | true ↦ λ t. (page_at_means is a page).1 (holds, t) ∙ ap Some same ∙ sym (at a ∙ ap (λ b. cond b (Some other) (page_at space a)) t)
      | false ↦ λ t. sym (at a ∙ ap (λ b. cond b (Some other) (page_at space a)) t)
    ] refl

    looks : (base : ℕ) → page.base ≡ base → look (finite.insert space page.base other) base ≡ Mapped page.phys page.size rights
    looks base begins =
        let offset : page.phys + (base - page.base) ≡ page.phys = omega arith in
        let covered : covers page base ≡ true = subst (λ a. covers page a ≡ true) begins (covers_base page) in
        ap (look_in_page base) (at base ∙ ap (λ b. cond b (Some other) (page_at space base)) covered)
        ∙ ap (λ n. Mapped n page.size rights) offset

  pub protect_change : (base : ℕ) (rights : Rights) (answer : Answer) (after : Space) (result : Option Change)
      → ((page : Page) → page.base ≡ base → page.rights ≢ rights → answer ≡ Changed page.rights
      → look after base ≡ Mapped page.phys page.size rights → IsSomeAnd result (λ change. (change.page ≡ page) × (change.was_mapped ≡ true)
      × (IsTrue change.takes ↔ (Includes page.rights rights → ⊥))))
      → (answer ≡ Changed rights → result ≡ None)
      → (((old : Rights) → answer ≢ Changed old) → result ≡ None)
      → answer ≡ (step depth limit space (Protect base rights)).answer → after ≡ (step depth limit space (Protect base rights)).space
      → IsChange depth space after result
  protect_change base rights answer after result found same none =
      protect_cases (λ s. answer ≡ s.answer → after ≡ s.space → IsChange depth space after result) depth limit space base rights
      (λ e told left. unchanged after result left (none (λ old changed. cc)))
      (λ page e begins told left. by_rights page ((page_at_means is base page).0 e).0 begins told left (page_or_not page (record page { rights = rights })))
      (λ page e differs told left. unchanged after result left (none (λ old changed. cc)))
    where
      by_found : (page : Page) → Holds space page → after ≡ finite.insert space page.base (record page { rights = rights })
          → page ≢ record page { rights = rights } → (result : Option Change) → IsSomeAnd result (λ change. (change.page ≡ page)
          × (change.was_mapped ≡ true) × (IsTrue change.takes ↔ (Includes page.rights rights → ⊥))) → IsChange depth space after result
      by_found page holds left apart None none = absurd none
      by_found page holds left apart (Some change) (same, mapped, less) =
          let one : there page change.takes ≡ change = λ i. record { page = sym same i; was_mapped = sym mapped i; takes = change.takes } in
          subst (IsPageChange depth space after) one
          (subst (λ s. IsPageChange depth space s (there page change.takes)) (sym left) (protected page holds rights change.takes apart less))

      by_rights : (page : Page) → Holds space page → page.base ≡ base → answer ≡ Changed page.rights
          → after ≡ finite.insert space page.base (record page { rights = rights })
          → (page ≡ record page { rights = rights }) ⊎ (page ≢ record page { rights = rights }) → IsChange depth space after result
      by_rights page holds begins told left (inl as_before) =
          subst (IsChange depth space after) (sym (same (told ∙ ap (λ (p : Page). Changed p.rights) as_before)))
          (λ a. kept page holds rights as_before a ∙ ap (λ s. page_at s a) (sym left))
      by_rights page holds begins told left (inr apart) =
          let differs : page.rights ≢ rights = λ e. apart (λ i. record page { rights = e i }) in
          let seen : look after base ≡ Mapped page.phys page.size rights =
          ap (λ s. look s base) left ∙ looks page holds rights base begins in
          by_found page holds left apart result (found page begins differs told seen)
