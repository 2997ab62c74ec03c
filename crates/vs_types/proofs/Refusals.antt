-- What the answers say that leave a space as it was.
use Rattle.std.proofs.Common.{◌≡◌, ◌≢◌, ℕ, ◌<◌, ◌≤◌, min, List, [], ◌∷◌, map, filter, Some, None, option_map, Contains, ◌↔◌, ⊎_elim, refl, sym, ap, ◌∙◌, subst}
use Rattle.std.proofs.Common.{arith, leb-false}
use Rattle.std.specs.FinMap as finite
use Rattle.std.proofs.lemmas.Bool.{cases_eq}
use Rattle.vs_types.specs.declared.addresses.depth.Depth.{Depth}
use Rattle.vs_types.specs.declared.addresses.page.Page.{Page}
use Rattle.vs_types.specs.declared.addresses.page.Rights.{Rights}
use Rattle.vs_types.specs.declared.requests.op.Action.TheVariants.{Map, Unmap, Protect}
use Rattle.vs_types.specs.declared.requests.answer.Answer.TheVariants.{Overlap, Full, NotMapped, Inside}
use Rattle.vs_types.specs.Laws.{as_in, IsLeastOverlapped, IsInside}
use Rattle.vs_types.specs.Page.{overlaps}
use Rattle.vs_types.specs.Space.{Space, pages, IsSpace, page_at, least, least_overlapped, table_count}
use Rattle.vs_types.specs.Step.{step, look}
use Rattle.vs_types.proofs.Lists.{Contains-head, Contains-tail, Contains-cases, not_in_nil, kept_from, kept_to}
use Rattle.vs_types.proofs.Pages.{covers_means}
use Rattle.vs_types.proofs.Spaces.{holds_listed, page_at_means, look_of_page, look_of_none}
use Rattle.vs_types.proofs.Steps.{map_cases, unmap_cases, protect_cases}

-- the least number of a list is in it, and none is below
pub least_is : (ns : List ℕ) (n : ℕ) → least ns ≡ Some n → Contains ns n × ((k : ℕ) → Contains ns k → n ≤ k)
least_is [] n e = cc
least_is (m ∷ []) n e =
    let same : m ≡ n = cc in
    (subst (Contains (m ∷ [])) same (Contains-head m []), λ k h. ⊎_elim (λ is. omega arith) (λ later. absurd (not_in_nil k later)) (Contains-cases m [] k h))
least_is (m ∷ k ∷ ks) n e =
    elim (least (k ∷ ks)) as (λ o. least (k ∷ ks) ≡ o → option_map (min m) o ≡ Some n → Contains (m ∷ k ∷ ks) n × ((j : ℕ) → Contains (m ∷ k ∷ ks) j → n ≤ j)) [
      | None ↦ λ none is. cc
      | Some x ↦ λ rest is.
          let lower : min m x ≡ n = cc in
          let later = least_is (k ∷ ks) x rest in (
            lowest m (k ∷ ks) x n lower later.0,
            λ j h. ⊎_elim (λ first. omega arith) (λ behind. let above = later.1 j behind in omega arith)
                (Contains-cases m (k ∷ ks) j h),
          )
    ] refl e
  where
    lowest : (m : ℕ) (ns : List ℕ) (x n : ℕ) → min m x ≡ n → Contains ns x → Contains (m ∷ ns) n
    lowest m ns x n lower has = ⊎_elim
        (λ (first : m ≡ n). subst (Contains (m ∷ ns)) first (Contains-head m ns))
        (λ (differs : m ≢ n). let same : x ≡ n = omega arith in subst (Contains (m ∷ ns)) same (Contains-tail m ns x has))
        (cases_eq m n)

-- the least overlapped base is that of a page that is overlapped, and no overlapped page begins below
pub least_overlapped_is : {depth : Depth} {space : Space} → IsSpace depth space → (page : Page) (base : ℕ) → least_overlapped space page ≡ Some base
    → IsLeastOverlapped space page base
least_overlapped_is {space = space} is page base e =
    let least = least_is (map (λ (p : Page). p.base) (filter (overlaps page) (pages space))) base e in
    let from = kept_from (λ (p : Page). p.base) (overlaps page) (pages space) base least.0 in
    record {
      overlapped = (from.0, (holds_listed is from.0).0 from.1, from.3, from.2);
      none_below = λ q holds meets. least.1 q.base (kept_to (λ (p : Page). p.base) (overlaps page) (pages space) q ((holds_listed is q).1 holds) meets);
    }

pub overlap_says : {depth : Depth} (limit : ℕ) {space : Space} → IsSpace depth space → (page : Page) (base : ℕ)
    → (step depth limit space (Map page)).answer ≡ Overlap base → IsLeastOverlapped space page base
overlap_says {depth} limit {space} is page base =
    map_cases (λ s. s.answer ≡ Overlap base → IsLeastOverlapped space page base) depth limit space page
    (λ e t answer. cc)
    (λ least e answer. let same : least ≡ base = cc in least_overlapped_is is page base (e ∙ ap Some same))
    (λ e t answer. cc)

pub full_says : (depth : Depth) (limit : ℕ) (space : Space) (page : Page) (need : ℕ) → (step depth limit space (Map page)).answer ≡ Full need
    → (need ≡ table_count depth (finite.insert space page.base page)) × (limit < need)
full_says depth limit space page need =
    map_cases (λ s. s.answer ≡ Full need → (need ≡ table_count depth (finite.insert space page.base page)) × (limit < need)) depth limit space page
    (λ e t answer. cc)
    (λ least e answer. cc)
    (λ e t answer. let above = leb-false _ limit t in
    let same : table_count depth (finite.insert space page.base page) ≡ need = cc in (sym same, subst (λ n. limit < n) same above))

-- a page that covers an address but begins elsewhere begins below
inside : {depth : Depth} {space : Space} → IsSpace depth space → (at base : ℕ) (page : Page) → page_at space at ≡ Some page → page.base ≢ at
    → page.base ≡ base → IsInside space at base
inside is at base page e differs same =
    let found = (page_at_means is at page).0 e in
    let spans = (covers_means page at).0 found.1 in
    record { covered = (page, found.0, same, found.1); below = omega arith }

pub unmap_inside : {depth : Depth} (limit : ℕ) {space : Space} → IsSpace depth space → (at base : ℕ)
    → (step depth limit space (Unmap at)).answer ≡ Inside base → IsInside space at base
unmap_inside {depth} limit {space} is at base =
    unmap_cases (λ s. s.answer ≡ Inside base → IsInside space at base) depth limit space at
    (λ e answer. cc)
    (λ page e t answer. cc)
    (λ page e t answer. inside is at base page e t (cc))

pub protect_inside : {depth : Depth} (limit : ℕ) {space : Space} → IsSpace depth space → (at base : ℕ) (rights : Rights)
    → (step depth limit space (Protect at rights)).answer ≡ Inside base → IsInside space at base
protect_inside {depth} limit {space} is at base rights =
    protect_cases (λ s. s.answer ≡ Inside base → IsInside space at base) depth limit space at rights
    (λ e answer. cc)
    (λ page e t answer. cc)
    (λ page e t answer. inside is at base page e t (cc))

-- where a page is, the address does not look unmapped
mapped_look : {depth : Depth} {space : Space} → IsSpace depth space → (at : ℕ) (page : Page) → page_at space at ≡ Some page → look space at ≡ NotMapped → ⊥
mapped_look {space = space} is at page e looks =
    let found = (page_at_means is at page).0 e in
    let other = look_of_page is at page found.0 found.1 in
    let wrong : as_in page at ≡ NotMapped = sym other ∙ looks in
    cc

pub unmap_not_mapped : {depth : Depth} (limit : ℕ) {space : Space} → IsSpace depth space → (at : ℕ)
    → ((step depth limit space (Unmap at)).answer ≡ NotMapped) ↔ (look space at ≡ NotMapped)
unmap_not_mapped {depth} limit {space} is at =
    unmap_cases (λ s. (s.answer ≡ NotMapped) ↔ (look space at ≡ NotMapped)) depth limit space at
    (λ e. (λ answer. look_of_none space at e, λ looks. refl))
    (λ page e t. (λ answer. cc, λ looks. absurd (mapped_look is at page e looks)))
    (λ page e t. (λ answer. cc, λ looks. absurd (mapped_look is at page e looks)))

pub protect_not_mapped : {depth : Depth} (limit : ℕ) {space : Space} → IsSpace depth space → (at : ℕ) (rights : Rights)
    → ((step depth limit space (Protect at rights)).answer ≡ NotMapped) ↔ (look space at ≡ NotMapped)
protect_not_mapped {depth} limit {space} is at rights =
    protect_cases (λ s. (s.answer ≡ NotMapped) ↔ (look space at ≡ NotMapped)) depth limit space at rights
    (λ e. (λ answer. look_of_none space at e, λ looks. refl))
    (λ page e t. (λ answer. cc, λ looks. absurd (mapped_look is at page e looks)))
    (λ page e t. (λ answer. cc, λ looks. absurd (mapped_look is at page e looks)))
