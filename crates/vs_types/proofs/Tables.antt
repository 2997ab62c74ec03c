-- How many tables a space needs.
use Rattle.std.proofs.Common.{◌≡◌, ℕ, zero, suc, ◌-◌, ◌/◌, ◌≤◌, true, nat_lt, leb-true, le_trans, le_refl, le_antisymm, map, filter, List, Some, Contains}
use Rattle.std.proofs.Common.{⊎_elim, refl, sym, ap, ◌∙◌, subst, arith}
use Rattle.std.proofs.lemmas.Bool.{cases_eq}
use Rattle.std.specs.FinMap as finite
use Rattle.vs_types.specs.declared.addresses.depth.Depth.{Depth}
use Rattle.vs_types.specs.declared.addresses.page.Page.{Page}
use Rattle.vs_types.specs.declared.addresses.page.Rights.{Rights}
use Rattle.vs_types.specs.declared.requests.op.Action.{Action}
use Rattle.vs_types.specs.declared.requests.op.Action.TheVariants.{Map, Unmap, Protect}
use Rattle.vs_types.specs.Depth.{levels, table_bytes}
use Rattle.vs_types.specs.Page.{bytes_of}
use Rattle.vs_types.specs.Space.{Space, pages, Holds, IsSpace, tables_of_level, tables_of_levels, table_count}
use Rattle.vs_types.specs.Step.{step}
use Rattle.vs_types.proofs.Lists.{kept_from, kept_to, distinct_count_within}
use Rattle.vs_types.proofs.Maps.{get-insert_same, get-insert_other}
use Rattle.vs_types.proofs.Spaces.{holds_listed, page_at_means, insert_cases, remove_cases, remove_space}
use Rattle.vs_types.proofs.Steps.{map_cases, unmap_cases, protect_cases, protect_space}

-- each page of ps has a page in qs with its base and its size
abbrev pub Within : List Page → List Page → Type 0
Within ps qs = (p : Page) → Contains ps p → (q : Page) × Contains qs q × (q.base ≡ p.base) × (q.size ≡ p.size)

level_within : (level : ℕ) (ps qs : List Page) → Within ps qs → tables_of_level level ps ≤ tables_of_level level qs
level_within level ps qs within = distinct_count_within (of ps) (of qs) (λ n has.
    let from = kept_from (λ (p : Page). p.base / table_bytes level) (λ p. nat_lt (bytes_of p.size) (table_bytes level)) ps n has in
    let twin = within from.0 from.1 in
    let small : nat_lt (bytes_of twin.0.size) (table_bytes level) ≡ true = ap (λ s. nat_lt (bytes_of s) (table_bytes level)) twin.3 ∙ from.2 in
    let place : twin.0.base / table_bytes level ≡ n = ap (λ b. b / table_bytes level) twin.2 ∙ from.3 in
    subst (Contains (of qs)) place
    (kept_to (λ (p : Page). p.base / table_bytes level) (λ p. nat_lt (bytes_of p.size) (table_bytes level)) qs twin.0 twin.1 small))
  where
    of : List Page → List ℕ
    of rs = map (λ (p : Page). p.base / table_bytes level) (filter (λ p. nat_lt (bytes_of p.size) (table_bytes level)) rs)

levels_within : (n : ℕ) (ps qs : List Page) → Within ps qs → tables_of_levels n ps ≤ tables_of_levels n qs
levels_within zero ps qs within = omega arith
levels_within (suc n) ps qs within = let here = level_within (suc n) ps qs within in let below = levels_within n ps qs within in omega arith

-- a space whose pages all have their base and size from pages of another needs no more tables
pub fewer_tables : {depth : Depth} {s t : Space} → IsSpace depth s → IsSpace depth t
    → ((p : Page) → Holds s p → (q : Page) × Holds t q × (q.base ≡ p.base) × (q.size ≡ p.size)) → table_count depth s ≤ table_count depth t
fewer_tables {depth} {s} {t} si ti within =
    let below = levels_within (levels depth - 1) (pages s) (pages t) (λ p has.
    let twin = within p ((holds_listed si p).0 has) in
    (twin.0, (holds_listed ti twin.0).1 twin.1, twin.2, twin.3)) in
    omega arith

pub unmap_tables : {depth : Depth} (limit : ℕ) {space : Space} → IsSpace depth space → (base : ℕ)
    → table_count depth (step depth limit space (Unmap base)).space ≤ table_count depth space
unmap_tables {depth} limit {space} is base =
    unmap_cases (λ s. table_count depth s.space ≤ table_count depth space) depth limit space base
    (λ e. le_refl (table_count depth space))
    (λ page e t. fewer_tables (remove_space is base) is (λ p h. (p, (remove_cases space base p.base p h).1, refl, refl)))
    (λ page e t. le_refl (table_count depth space))

-- other rights leave the tables
pub rights_tables : {depth : Depth} {space : Space} → IsSpace depth space → (page : Page) (rights : Rights) → Holds space page
    → table_count depth (finite.insert space page.base (record page { rights = rights })) ≡ table_count depth space
rights_tables {depth} {space} is page rights holds = le_antisymm (fewer_tables new is back) (fewer_tables is new forth)
  where
    new : IsSpace depth (finite.insert space page.base (record page { rights = rights }))
    new = protect_space is page rights holds

    back : (p : Page) → Holds (finite.insert space page.base (record page { rights = rights })) p
        → (q : Page) × Holds space q × (q.base ≡ p.base) × (q.size ≡ p.size)
    back p h = ⊎_elim
        (λ fresh. (page, holds, sym fresh.0, ap (λ (z : Page). z.size) (sym fresh.1)))
        (λ old. (p, old.1, refl, refl))
        (insert_cases space page.base (record page { rights = rights }) p.base p h)

    forth : (p : Page) → Holds space p
        → (q : Page) × Holds (finite.insert space page.base (record page { rights = rights })) q × (q.base ≡ p.base) × (q.size ≡ p.size)
    forth p h = ⊎_elim
        (λ same.
        let at : finite.get space page.base ≡ Some p = subst (λ z. finite.get space z ≡ Some p) same h in
        let one : page ≡ p = cc in
        (record page { rights = rights }, get-insert_same space page.base (record page { rights = rights }), sym same, ap (λ (z : Page). z.size) one))
        (λ differs. (p, get-insert_other space page.base (record page { rights = rights }) p.base differs ∙ h, refl, refl))
        (cases_eq p.base page.base)

pub protect_tables : {depth : Depth} (limit : ℕ) {space : Space} → IsSpace depth space → (base : ℕ) (rights : Rights)
    → table_count depth (step depth limit space (Protect base rights)).space ≡ table_count depth space
protect_tables {depth} limit {space} is base rights =
    protect_cases (λ s. table_count depth s.space ≡ table_count depth space) depth limit space base rights
    (λ e. refl)
    (λ page e t. rights_tables is page rights ((page_at_means is base page).0 e).0)
    (λ page e t. refl)

pub step_limit : {depth : Depth} (limit : ℕ) {space : Space} → IsSpace depth space → (action : Action) → table_count depth space ≤ limit
    → table_count depth (step depth limit space action).space ≤ limit
step_limit {depth} limit {space} is (Map page) few =
    map_cases (λ s. table_count depth s.space ≤ limit) depth limit space page
    (λ e t. leb-true (table_count depth (finite.insert space page.base page)) limit t) (λ base e. few) (λ e t. few)
step_limit limit is (Unmap base) few = le_trans (unmap_tables limit is base) few
step_limit {depth} limit is (Protect base rights) few = subst (λ n. n ≤ limit) (sym (protect_tables limit is base rights)) few
