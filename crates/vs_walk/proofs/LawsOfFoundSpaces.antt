-- The space of pages whose bases rise; and that of the pages that are found.
use Rattle.std.proofs.Common.{◌≡◌, ℕ, ◌<◌, Bool, true, false, cond, ◌&&◌, List, [], ◌∷◌, map, Some, None, refl, sym, ap, subst, ◌∙◌, arith, Contains}
use Rattle.std.specs.Prelude.{All}
use Rattle.std.specs.FinMap as finite
use Rattle.std.specs.FinMap.Entries as entries
use Rattle.std.specs.List.{AllPairs}
use Rattle.std.specs.Ordering.{nat_cmp, eq_by_cmp, is_lt}
use Rattle.std.proofs.lemmas.Bool.{eqb-true}
use Rattle.std.proofs.lemmas.Bool.Decides.{nat_tests}
use Rattle.std.proofs.lemmas.List.Elements.{All-contains}
use lib.Dec.{T}
use Rattle.vs_types.specs.Page.{IsPage}
use Rattle.vs_types.specs.Space.{Space, pages, IsSpace}
use Rattle.vs_types.specs.declared.addresses.depth.Depth.{Depth}
use Rattle.vs_types.specs.declared.addresses.page.Page.{Page}
use Rattle.vs_types.proofs.Lists.{Contains-head, Contains-tail}
use Rattle.vs_types.proofs.Spaces.{same_key}
use Rattle.vs_walk.specs.Memory.{Memory, AreWhole}
use Rattle.vs_walk.specs.Walk.{TranslatesAs}
use Rattle.vs_walk.specs.Traversal.{traversal, found, walk_fault}
use Rattle.vs_walk.proofs.LawsOfSpaces.{ArePages, rises_first, rises_rest, found_are_pages, found_translates}

-- the pages, each under its base
abbrev pub under_bases : List Page → List (ℕ × Page)
under_bases ps = map (λ (p : Page). (p.base, p)) ps

-- the space of some pages
pub space_of : List Page → Space
space_of ps = finite.from_sorted {R = nat_cmp} (under_bases ps)

both : (a b : Bool) → T a → T b → T (a && b)
both true b p q = q
both false b p q = p

less_key : (low q : ℕ) → low < q → T (is_lt (nat_cmp low q))
less_key low q lt = let is : is_lt (nat_cmp low q) ≡ true = grind (arith, nat_tests) in subst T (sym is) tt

below_bases : (low : ℕ) (ps : List Page) → ((q : Page) → Contains ps q → low < q.base) → T (entries.below_all nat_cmp low (under_bases ps))
below_bases low [] above = tt
below_bases low (p ∷ ps) above = both _ _ (less_key low p.base (above p (Contains-head p ps))) (below_bases low ps (λ q h. above q (Contains-tail p ps q h)))

bases_sorted : (ps : List Page) → AllPairs (λ p q. p.base < q.base) ps → T (entries.is_sorted nat_cmp (under_bases ps))
bases_sorted [] rise = tt
bases_sorted (p ∷ ps) rise = both _ _ (below_bases p.base ps (rises_first p ps rise)) (bases_sorted ps (rises_rest p ps rise))

pages_under : (ps : List Page) → map (λ e. e.1) (under_bases ps) ≡ ps
pages_under [] = refl
pages_under (p ∷ ps) = ap (λ qs. p ∷ qs) (pages_under ps)

pub pages_of : (ps : List Page) → AllPairs (λ p q. p.base < q.base) ps → pages (space_of ps) ≡ ps
unfolding space_of
pages_of ps rise = ap (map (λ e. e.1)) (finite.entries-from_sorted nat_cmp (under_bases ps) (bases_sorted ps rise)) ∙ pages_under ps

-- what is found at a base is a page with that base
pub found_under : (base : ℕ) (ps : List Page) (page : Page) → entries.find nat_cmp base (under_bases ps) ≡ Some page → (page.base ≡ base) × Contains ps page
found_under base [] page e = cc
found_under base (p ∷ ps) page e =
    elim (eq_by_cmp nat_cmp base p.base) as (λ b. eq_by_cmp nat_cmp base p.base ≡ b → cond b (Some p) (entries.find nat_cmp base (under_bases ps)) ≡ Some page
    → (page.base ≡ base) × Contains (p ∷ ps) page) [
      | true ↦ λ t is.
          let same : p ≡ page = cc in
          let key : base ≡ p.base = eqb-true base p.base (sym (same_key base p.base) ∙ t) in
          (ap (λ (z : Page). z.base) (sym same) ∙ sym key, subst (Contains (p ∷ ps)) same (Contains-head p ps))
      | false ↦ λ t is. let later = found_under base ps page is in (later.0, Contains-tail p ps page later.1)
    ] refl e

held_under : (ps : List Page) (base : ℕ) (page : Page) → AllPairs (λ p q. p.base < q.base) ps → finite.get (space_of ps) base ≡ Some page
    → (page.base ≡ base) × Contains ps page
unfolding space_of
held_under ps base page rise held = found_under base ps page (sym (finite.get-from_sorted nat_cmp (under_bases ps) base (bases_sorted ps rise)) ∙ held)

-- well-formed pages by rising base, of which no two cover one address, are a space
pub are_space : (depth : Depth) (ps : List Page) → ArePages depth ps → All (IsPage depth) ps → IsSpace depth (space_of ps)
are_space depth ps are formed = record {
  under_base = λ base page held. (held_under ps base page are.rise held).0;
  well_formed = λ page held. All-contains (IsPage depth) ps page formed (held_under ps page.base page are.rise held).1;
  apart = λ p q address in_p in_q. are.apart p q address (held_under ps p.base p are.rise in_p).1 (held_under ps q.base q are.rise in_q).1;
}

-- without a fault, a memory translates as the space of the found pages, if they all lie where pages may
pub found_space : (depth : Depth) (memory : Memory) (root : ℕ) → AreWhole memory → walk_fault depth memory root ≡ None
    → All (IsPage depth) (found (traversal depth memory root))
    → (space : Space) × IsSpace depth space × (pages space ≡ found (traversal depth memory root)) × TranslatesAs depth memory root space
found_space depth memory root whole none formed =
    let are = found_are_pages depth memory root whole in
    let same = pages_of (found (traversal depth memory root)) are.rise in (
      space_of (found (traversal depth memory root)),
      are_space depth (found (traversal depth memory root)) are formed,
      same,
      found_translates depth memory root
          (space_of (found (traversal depth memory root))) whole none (sym same),
    )
