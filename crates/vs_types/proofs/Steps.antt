-- What a step does, case by case.
use Rattle.std.proofs.Common.{◌≡◌, ℕ, Bool, true, false, cond, if◌then◌else◌, nat_le, List, [], ◌∷◌, map, Some, None, Contains, IsTrue, ◌≢◌, ⊎_elim, refl, sym}
use Rattle.std.proofs.Common.{ap, subst, filter}
use Rattle.std.proofs.lemmas.Bool.{cases_Bool, cases_eq, eq-eqb, ne_eqb}
use Rattle.std.specs.FinMap as finite
use Rattle.vs_types.specs.declared.addresses.depth.Depth.{Depth}
use Rattle.vs_types.specs.declared.addresses.page.Page.{Page}
use Rattle.vs_types.specs.declared.addresses.page.Rights.{Rights}
use Rattle.vs_types.specs.declared.requests.op.Action.{Action}
use Rattle.vs_types.specs.declared.requests.op.Action.TheVariants.{Map, Unmap, Protect}
use Rattle.vs_types.specs.declared.requests.answer.Answer.TheVariants.{Done, Overlap, Full, Removed, NotMapped, Inside, Changed}
use Rattle.vs_types.specs.Operation.{IsAction}
use Rattle.vs_types.specs.Page.{covers, overlaps}
use Rattle.vs_types.specs.Space.{Space, pages, Holds, IsSpace, page_at, least, least_overlapped, table_count}
use Rattle.vs_types.specs.Step.{Stepped, step}
use Rattle.vs_types.proofs.Lists.{Contains-cases, not_in_nil}
use Rattle.vs_types.proofs.Pages.{overlaps_shares}
use Rattle.vs_types.proofs.Spaces.{holds_listed, page_at_means, insert_space, remove_space}

-- the space with the page
abbrev with_page : Space → Page → Space
with_page space page = finite.insert space page.base page

-- a map: the page is there, or a page is overlapped, or tables are too few
pub map_cases : (P : Stepped → Type 0) (depth : Depth) (limit : ℕ) (space : Space) (page : Page)
    → (least_overlapped space page ≡ None → nat_le (table_count depth (with_page space page)) limit ≡ true
    → P (record { space = with_page space page; answer = Done }))
    → ((base : ℕ) → least_overlapped space page ≡ Some base → P (record { space = space; answer = Overlap base }))
    → (least_overlapped space page ≡ None → nat_le (table_count depth (with_page space page)) limit ≡ false
    → P (record { space = space; answer = Full (table_count depth (with_page space page)) }))
    → P (step depth limit space (Map page))
map_cases P depth limit space page done overlap full =
    elim (least_overlapped space page) as (λ o. least_overlapped space page ≡ o → P (step depth limit space (Map page))) [
      | None ↦ λ e. ⊎_elim (λ t. rw e (subst answered (sym t) (done e t))) (λ t. rw e (subst answered (sym t) (full e t))) (cases_Bool (nat_le need limit))
      | Some base ↦ λ e. rw e (overlap base e)
    ] refl
  where
    need : ℕ
    need = table_count depth (with_page space page)

    answered : Bool → Type 0
    answered b = P (if b then record { space = with_page space page; answer = Done }
        else record { space = space; answer = Full (table_count depth (with_page space page)) })

-- an unmap: no page has the base, or the page goes, or the base lies inside the page
pub unmap_cases : (P : Stepped → Type 0) (depth : Depth) (limit : ℕ) (space : Space) (base : ℕ)
    → (page_at space base ≡ None → P (record { space = space; answer = NotMapped }))
    → ((page : Page) → page_at space base ≡ Some page → page.base ≡ base
    → P (record { space = finite.remove space base; answer = Removed page.phys page.size page.rights }))
    → ((page : Page) → page_at space base ≡ Some page → page.base ≢ base → P (record { space = space; answer = Inside page.base }))
    → P (step depth limit space (Unmap base))
unmap_cases P depth limit space base none removed inside =
    elim (page_at space base) as (λ o. page_at space base ≡ o → P (step depth limit space (Unmap base))) [
      | None ↦ λ e. rw e (none e)
      | Some page ↦ λ e. ⊎_elim (λ t. rw (e, eq-eqb page.base base t) (removed page e t)) (λ t. rw (e, ne_eqb page.base base t) (inside page e t))
          (cases_eq page.base base)
    ] refl

-- a protect: no page has the base, or the page gets the rights, or the base lies inside the page
pub protect_cases : (P : Stepped → Type 0) (depth : Depth) (limit : ℕ) (space : Space) (base : ℕ) (rights : Rights)
    → (page_at space base ≡ None → P (record { space = space; answer = NotMapped }))
    → ((page : Page) → page_at space base ≡ Some page → page.base ≡ base
    → P (record { space = with_page space (record page { rights = rights }); answer = Changed page.rights }))
    → ((page : Page) → page_at space base ≡ Some page → page.base ≢ base → P (record { space = space; answer = Inside page.base }))
    → P (step depth limit space (Protect base rights))
protect_cases P depth limit space base rights none changed inside =
    elim (page_at space base) as (λ o. page_at space base ≡ o → P (step depth limit space (Protect base rights))) [
      | None ↦ λ e. rw e (none e)
      | Some page ↦ λ e. ⊎_elim (λ t. rw (e, eq-eqb page.base base t) (changed page e t)) (λ t. rw (e, ne_eqb page.base base t) (inside page e t))
          (cases_eq page.base base)
    ] refl

-- ---- what a map overlaps

-- where a filter has no least base, it keeps nothing
nothing_kept : (test : Page → Bool) (ps : List Page) (q : Page) → least (map (λ p. p.base) (filter test ps)) ≡ None → Contains ps q → test q ≡ false
nothing_kept test [] q e h = absurd (not_in_nil q h)
nothing_kept test (p ∷ ps) q e h =
    elim (test p) as (λ b. test p ≡ b → least (map (λ r. r.base) (cond b (p ∷ filter test ps) (filter test ps))) ≡ None → test q ≡ false) [
      | true ↦ λ t is. cc
      | false ↦ λ t is. ⊎_elim (λ same. subst (λ z. test z ≡ false) same t) (λ later. nothing_kept test ps q is later) (Contains-cases p ps q h)
    ] refl e

-- a page that overlaps nothing has no address of a page that is there
pub alone : {depth : Depth} {space : Space} → IsSpace depth space → (page : Page) → least_overlapped space page ≡ None → (q : Page) (a : ℕ)
    → Holds space q → IsTrue (covers q a) → IsTrue (covers page a) → ⊥
alone {depth} {space} is page e q a holds in_q in_page =
    let apart = nothing_kept (overlaps page) (pages space) q e ((holds_listed is q).1 holds) in
    let meet = (overlaps_shares page q).1 (a, in_page, in_q) in
    cc

-- ---- a step keeps a space a space

-- the page with other rights
pub protect_space : {depth : Depth} {space : Space} → IsSpace depth space → (page : Page) (rights : Rights) → Holds space page
    → IsSpace depth (with_page space (record page { rights = rights }))
protect_space {depth} {space} is page rights holds =
    insert_space is (record page { rights = rights })
    (let good = is.well_formed page holds in
    record { canonical = good.canonical; aligned = good.aligned; phys_aligned = good.phys_aligned; phys_range = good.phys_range })
    (λ q a h differs c d. differs (ap (λ (z : Page). z.base) (is.apart q page a h holds c d)))

pub step_space : {depth : Depth} (limit : ℕ) {space : Space} → IsSpace depth space → (action : Action) → IsAction depth action
    → IsSpace depth (step depth limit space action).space
step_space {depth} limit {space} is (Map page) good =
    map_cases (λ s. IsSpace depth s.space) depth limit space page
    (λ e t. insert_space is page good (λ q a holds differs c d. alone is page e q a holds c d))
    (λ base e. is)
    (λ e t. is)
step_space {depth} limit {space} is (Unmap base) good =
    unmap_cases (λ s. IsSpace depth s.space) depth limit space base (λ e. is) (λ page e t. remove_space is base) (λ page e t. is)
step_space {depth} limit {space} is (Protect base rights) good =
    protect_cases (λ s. IsSpace depth s.space) depth limit space base rights
    (λ e. is)
    (λ page e t. protect_space is page rights ((page_at_means is base page).0 e).0)
    (λ page e t. is)
