-- An operation on a space, and what began at its base put back.
use Rattle.std.proofs.Common.{◌≡◌, ◌≢◌, ℕ, ◌+◌, ◌-◌, ◌%◌, ◌↔◌, Bool, take, Some, None, IsTrue, refl, sym, ap, subst, ◌∙◌, arith}
use Rattle.std.specs.FinMap as finite
use Rattle.vs_types.specs.Config.{Layout}
use Rattle.vs_types.specs.Operation.{IsAction, IsBase}
use Rattle.vs_types.specs.Page.{bytes_of, covers, IsPage}
use Rattle.vs_types.specs.Space.{Space, Holds, IsSpace, page_at, least_overlapped}
use Rattle.vs_types.specs.Step.{look, look_in_page, step}
use Rattle.vs_types.specs.declared.requests.answer.Answer.{Answer}
use Rattle.vs_types.specs.declared.requests.answer.Answer.TheVariants.{Mapped}
use Rattle.vs_types.specs.declared.addresses.depth.Depth.{Depth}
use Rattle.vs_types.specs.declared.requests.op.Action.{Action}
use Rattle.vs_types.specs.declared.requests.op.Action.TheVariants.{Map, Unmap, Protect}
use Rattle.vs_types.specs.declared.addresses.page.Page.{Page}
use Rattle.vs_types.specs.declared.addresses.page.Rights.{Rights}
use Rattle.vs_types.specs.declared.addresses.page.Size.{Size}
use Rattle.vs_types.specs.declared.requests.request.Query.{Query}
use Rattle.vs_types.specs.declared.requests.request.Query.TheVariants.{Update, Resolve, Access}
use Rattle.vs_types.proofs.Overlaps.{none_overlapped}
use Rattle.vs_types.proofs.Pages.{covers_base, covers_means, overlaps_shares, same_aligned, same_page}
use Rattle.vs_types.proofs.Spaces.{page_at_means, put_back, remove_cases, remove_space}
use Rattle.vs_types.proofs.Steps.{map_cases, protect_cases, unmap_cases}
use Rattle.nr_touch.proofs.Undone.{insert_elsewhere, page_base, remove_elsewhere, remove_none, unmapped}
use Rattle.vs_plain.specs.Plain.{BoundedSpace}
use Rattle.nr_trace.specs.Recording.{Recording}
use Rattle.nr_trace.specs.Orders.{answer_in, space_from}
use Rattle.nr_audit.specs.Verdict.{space_of}
use Rattle.nr_explain.specs.Facts.{asked_address}
use Rattle.nr_explain.specs.Nearest.{IsRightAfter}
use Rattle.nr_explain.specs.inside.Nearest.{IsToldIn}

-- ---- the page that begins at a base

abbrev pub page_of : ℕ → ℕ → Size → Rights → Page
page_of base phys size rights = record { base = base; size = size; rights = rights; phys = phys }

module _ {depth : Depth} {space : Space} (is : IsSpace depth space) (base : ℕ) where
  -- where the page that has the base begins elsewhere, or none has it, none begins there
  pub none_begins : ((page : Page) → page_at space base ≡ Some page → page.base ≢ base) → None ≡ finite.get space base
  none_begins none = elim (finite.get space base) as (λ o. finite.get space base ≡ o → None ≡ o) [
    | None ↦ λ e. refl
    | Some page ↦ λ e.
        let begins = is.under_base base page e in
        let holds : Holds space page = subst (λ k. finite.get space k ≡ Some page) (sym begins) e in
        let covered : IsTrue (covers page base) = subst (λ a. IsTrue (covers page a)) begins (covers_base page) in
        absurd (none page ((page_at_means is base page).1 (holds, covered)) begins)
  ] refl

  module _ (phys : ℕ) (size : Size) (rights : Rights) (looks : look space base ≡ Mapped phys size rights) where
    in_page : (page : Page) → page_at space base ≡ Some page → Mapped (page.phys + (base - page.base)) page.size page.rights ≡ Mapped phys size rights
    in_page page at = sym (ap (look_in_page base) at) ∙ looks

    pub page_begins : base % bytes_of size ≡ 0 → Some (page_of base phys size rights) ≡ finite.get space base
    page_begins aligned = elim (page_at space base) as (λ o. page_at space base ≡ o → Some (page_of base phys size rights) ≡ finite.get space base) [
      | None ↦ λ at. let missed = sym (ap (look_in_page base) at) ∙ looks in absurd (cc)
      | Some page ↦ λ at.
          let same = in_page page at in
          let same_size : page.size ≡ size = cc in
          let same_rights : page.rights ≡ rights = cc in
          let same_phys : page.phys + (base - page.base) ≡ phys = cc in
          let there = (page_at_means is base page).0 at in
          let within = (covers_means page base).0 there.1 in
          let begins : page.base ≡ base = same_aligned page.size base page.base (subst (λ s. base % bytes_of s ≡ 0) (sym same_size) aligned)
          (is.well_formed page there.0).aligned within.0 within.1 in
          ap Some (same_page (page_of base phys size rights) page (sym begins) (sym same_size) (omega (arith, same_phys, begins)) (sym same_rights))
          ∙ sym (subst (λ k. finite.get space k ≡ Some page) begins there.0)
    ] refl

    pub none_aligned : (base % bytes_of size ≡ 0 → ⊥) → None ≡ finite.get space base
    none_aligned apart = none_begins (λ page at begins.
        let same = in_page page at in
        let same_size : page.size ≡ size = cc in
        let there = (page_at_means is base page).0 at in
        apart (subst (λ s. base % bytes_of s ≡ 0) same_size
        (subst (λ b. b % bytes_of page.size ≡ 0) begins (is.well_formed page there.0).aligned)))

  pub none_mapped : ((phys : ℕ) (size : Size) (rights : Rights) → look space base ≡ Mapped phys size rights → ⊥) → None ≡ finite.get space base
  none_mapped not = none_begins (λ page at begins. not (page.phys + (base - page.base)) page.size page.rights (ap (look_in_page base) at))

-- ---- an operation

-- a page may begin where it asks for one
pub base_fits : (depth : Depth) (action : Action) → IsAction depth action → IsBase depth (asked_address (Update action))
base_fits depth (Map page) good = page_base depth page good
base_fits depth (Unmap base) good = good
base_fits depth (Protect base rights) good = good

-- it changes nothing but what begins at its base
pub elsewhere : (depth : Depth) (limit : ℕ) (space : Space) (action : Action)
    → finite.remove (step depth limit space action).space (asked_address (Update action)) ≡ finite.remove space (asked_address (Update action))
elsewhere depth limit space (Map page) = map_cases (λ s. finite.remove s.space page.base ≡ finite.remove space page.base) depth limit space page
    (λ free few. insert_elsewhere space page.base page) (λ base overlapped. refl) (λ free many. refl)
elsewhere depth limit space (Unmap base) = unmap_cases (λ s. finite.remove s.space base ≡ finite.remove space base) depth limit space base
    (λ none. refl) (λ page at begins. remove_elsewhere space base) (λ page at differs. refl)
elsewhere depth limit space (Protect base rights) =
    protect_cases (λ s. finite.remove s.space base ≡ finite.remove space base) depth limit space base rights
    (λ none. refl)
    (λ page at begins. subst (λ b. finite.remove (finite.insert space b (record page { rights = rights })) base ≡ finite.remove space base) (sym begins)
    (insert_elsewhere space base (record page { rights = rights })))
    (λ page at differs. refl)

module _ {depth : Depth} {space : Space} (is : IsSpace depth space) (base : ℕ) (page : Page) (begins : finite.get space base ≡ Some page) where
  at_base : page.base ≡ base
  at_base = is.under_base base page begins

  pub holds : Holds space page
  holds = subst (λ k. finite.get space k ≡ Some page) (sym at_base) begins

  -- the page that began there can be put back
  pub free_again : least_overlapped (finite.remove space base) page ≡ None
  free_again = subst (λ b. least_overlapped (finite.remove space b) page ≡ None) at_base
      (none_overlapped (remove_space is page.base) page (λ other there overlapped.
      let (differs, was) = remove_cases space page.base other.base other there in
      let (address, here, too) = (overlaps_shares page other).0 overlapped in
      differs (ap (λ (p : Page). p.base) (sym (is.apart page other address holds was here too)))))

  pub comes_back : finite.insert (finite.remove space base) page.base page ≡ space
  comes_back = subst (λ b. finite.insert (finite.remove space b) page.base page ≡ space) at_base (put_back space page holds)

-- ---- an operation, an unmap of what begins at its base, and what began there

abbrev pub with_space : BoundedSpace → Space → BoundedSpace
with_space bounded space = record bounded { space = space }

module _ (old mid new : BoundedSpace) (op : Action) (base : ℕ) (is : IsSpace old.depth old.space) (good : IsAction old.depth op)
    (at : base ≡ asked_address (Update op)) (did : mid ≡ with_space old (step old.depth old.limit old.space op).space) where
  pub base_is : IsBase old.depth base
  base_is = subst (IsBase old.depth) (sym at) (base_fits old.depth op good)

  pub unmap_fits : IsAction mid.depth (Unmap base)
  unmap_fits = subst (λ d. IsBase d base) (sym (ap (λ (s : BoundedSpace). s.depth) did)) base_is

  module _ (mid_is : IsSpace mid.depth mid.space) (undid : new ≡ with_space mid (step mid.depth mid.limit mid.space (Unmap base)).space) where
    taken : new ≡ with_space old (finite.remove old.space base)
    taken = undid ∙ ap (with_space mid) (unmapped mid_is mid.limit base) ∙ ap (λ (m : BoundedSpace). with_space m (finite.remove m.space base)) did
        ∙ ap (with_space old) (subst (λ b. finite.remove (step old.depth old.limit old.space op).space b ≡ finite.remove old.space b) (sym at)
        (elsewhere old.depth old.limit old.space op))

    pub put_back_none : finite.get old.space base ≡ None → new ≡ old
    put_back_none none = taken ∙ ap (with_space old) (remove_none old.space base none)

    module _ (page : Page) (begins : finite.get old.space base ≡ Some page) where
      pub put_back_well : IsPage new.depth page
      put_back_well = subst (λ d. IsPage d page) (sym (ap (λ (s : BoundedSpace). s.depth) taken)) (is.well_formed page (holds is base page begins))

      pub put_back_free : least_overlapped new.space page ≡ None
      put_back_free = subst (λ (s : BoundedSpace). least_overlapped s.space page ≡ None) (sym taken) (free_again is base page begins)

      pub put_back_page : (last : BoundedSpace) → last ≡ with_space new (finite.insert new.space page.base page) → last ≡ old
      put_back_page last put = put ∙ ap (λ (s : BoundedSpace). with_space s (finite.insert s.space page.base page)) taken
          ∙ ap (with_space old) (comes_back is base page begins)

-- ---- what is answered

pub told_in : (layout : Layout) (space : Space) (request : Query) (told : Answer)
    → IsToldIn (space_of layout space) request told ↔ (told ≡ answer_in layout space request)
told_in layout space (Update action) told = (λ is. is, λ is. is)
told_in layout space (Resolve address) told = (λ is. is, λ is. is)
told_in layout space (Access address mode access) told = (λ is. is, λ is. is)

pub told_same : (space : BoundedSpace) (request : Query) (answer told : Answer) (is : Bool) → IsToldIn space request answer → IsTrue is ↔ (told ≡ answer)
    → IsTrue is ↔ IsToldIn space request told
told_same space (Update action) answer told is own says = (λ t. says.0 t ∙ own, λ same. says.1 (same ∙ sym own))
told_same space (Resolve address) answer told is own says = (λ t. says.0 t ∙ own, λ same. says.1 (same ∙ sym own))
told_same space (Access address mode access) answer told is own says = (λ t. says.0 t ∙ own, λ same. says.1 (same ∙ sym own))

pub right_at : (start : Space) (trace : Recording) (request : Query) (told : Answer) (n : ℕ) (space : BoundedSpace) (is : Bool)
    → space ≡ space_of trace.layout (space_from start trace (take n trace.log)) → IsTrue is ↔ IsToldIn space request told
    → IsTrue is ↔ IsRightAfter start trace request told n
right_at start trace request told n space is there says =
    let same = told_in trace.layout (space_from start trace (take n trace.log)) request told in
    let here = subst (λ (s : BoundedSpace). IsTrue is ↔ IsToldIn s request told) there says in
    (λ yes. same.0 (here.0 yes), λ right. here.1 (same.1 right))
