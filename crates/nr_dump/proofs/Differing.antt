-- Two lists of pages by rising base, equal up to some place: the lesser base there is the least address at which they
-- translate otherwise.
use Rattle.std.proofs.Common.{◌≡◌, ◌≢◌, ℕ, ◌-◌, ◌+◌, ◌<◌, ◌≤◌, true, false, cond, List, [], ◌∷◌, ◌++◌, Some, None, ◌⊎◌, inl, inr, ⊎_elim, refl, sym, ap, subst}
use Rattle.std.proofs.Common.{◌∙◌, arith, Contains}
use Rattle.std.proofs.lemmas.Bool.{cases_lt}
use Rattle.std.proofs.lemmas.Bool.Decides.{nat_tests}
use Rattle.std.proofs.lemmas.List.Elements.{Contains-append_right}
use Rattle.vs_types.specs.Depth.{IsCanonical}
use Rattle.vs_types.specs.Page.{end_of, covers}
use Rattle.vs_types.specs.declared.addresses.depth.Depth.{Depth}
use Rattle.vs_types.specs.declared.addresses.page.Page.{Page}
use Rattle.vs_types.proofs.Lists.{Contains-head, Contains-tail, Contains-cases, not_in_nil, find_found}
use Rattle.vs_types.proofs.Pages.{covers_means, covers_base, same_page}
use Rattle.vs_walk.specs.Differences.{IsLeast}
use Rattle.vs_types.specs.Space.{page_covering}
use Rattle.vs_walk.specs.Laws.{as_found}
use Rattle.vs_walk.proofs.LawsOfSpaces.{ArePages, rises_first, rises_rest}
use Rattle.nr_dump.specs.inside.Comparing.{HeadsDiffer}

-- the two lists translate a canonical address otherwise
abbrev pub DiffersAt : Depth → List Page → List Page → ℕ → Type 0
DiffersAt depth ps qs address = IsCanonical depth address × (as_found address (page_covering address ps) ≢ as_found address (page_covering address qs))

-- ---- pages by rising base

pub rest_are_pages : {depth : Depth} (p : Page) (ps : List Page) → ArePages depth (p ∷ ps) → ArePages depth ps
rest_are_pages p ps are = record {
  canonical = λ q in_ps. are.canonical q (Contains-tail p ps q in_ps);
  aligned = λ q in_ps. are.aligned q (Contains-tail p ps q in_ps);
  apart = λ q r address in_q in_r. are.apart q r address (Contains-tail p ps q in_q) (Contains-tail p ps r in_r);
  rise = rises_rest p ps are.rise;
}

-- the first page ends at the base of each later one, or before
ends_first : {depth : Depth} (p : Page) (ps : List Page) → ArePages depth (p ∷ ps) → (q : Page) → Contains ps q → end_of p ≤ q.base
ends_first p ps are q in_ps =
    let rise : p.base < q.base = rises_first p ps are.rise q in_ps in
    ⊎_elim
    (λ within.
    let one : p ≡ q = are.apart p q q.base (Contains-head p ps) (Contains-tail p ps q in_ps) ((covers_means p q.base).1 (omega arith, within))
    (covers_base q) in
    let same : p.base ≡ q.base = ap (λ (z : Page). z.base) one in
    absurd (omega arith))
    (λ behind. behind)
    (cases_lt q.base (end_of p))

below_all : (p : Page) (ps : List Page) (address : ℕ) → ((q : Page) → Contains ps q → p.base < q.base) → address < p.base → (q : Page) → Contains (p ∷ ps) q
    → address < q.base
below_all p ps address rise below q in_ps =
    ⊎_elim
    (λ same. subst (λ (z : Page). address < z.base) same below)
    (λ later. let more = rise q later in omega arith)
    (Contains-cases p ps q in_ps)

-- ---- what covers an address

not_covered : (p : Page) (address : ℕ) → address < p.base → covers p address ≡ false
not_covered p address below = grind (arith, nat_tests)

not_covered_behind : (p : Page) (address : ℕ) → end_of p ≤ address → covers p address ≡ false
not_covered_behind p address behind = grind (arith, nat_tests)

nothing_covers : (ps : List Page) (address : ℕ) → ((q : Page) → Contains ps q → address < q.base) → page_covering address ps ≡ None
nothing_covers ps address above =
    elim (page_covering address ps) as (λ o. page_covering address ps ≡ o → o ≡ None) [
      | None ↦ λ is. refl
      | Some q ↦ λ is.
          let there = find_found (λ x. covers x address) ps q is in
          let low : address < q.base = above q there.0 in
          let not : covers q address ≡ false = not_covered q address low in
          cc
    ] refl

first_covers : (p : Page) (ps : List Page) → page_covering p.base (p ∷ ps) ≡ Some p
first_covers p ps = ap (λ b. cond b (Some p) (page_covering p.base ps)) (covers_base p)

first_skipped : (p : Page) (ps : List Page) (address : ℕ) → covers p address ≡ false → page_covering address (p ∷ ps) ≡ page_covering address ps
first_skipped p ps address not = ap (λ b. cond b (Some p) (page_covering address ps)) not

first_taken : (p : Page) (ps : List Page) (address : ℕ) → covers p address ≡ true → page_covering address (p ∷ ps) ≡ Some p
first_taken p ps address is = ap (λ b. cond b (Some p) (page_covering address ps)) is

-- ---- lists whose first pages differ

-- all pages of the list begin above the address
abbrev Above : List Page → ℕ → Type 0
Above ps address = (q : Page) → Contains ps q → address < q.base

above_nothing : (address : ℕ) → Above [] address
above_nothing address q in_ps = absurd (not_in_nil q in_ps)

-- a page of the one list alone, at its base
one_alone : (depth : Depth) (ps qs : List Page) (p : Page) → IsCanonical depth p.base → page_covering p.base ps ≡ Some p → Above qs p.base
    → DiffersAt depth ps qs p.base
one_alone depth ps qs p canonical here above =
    let nothing = nothing_covers qs p.base above in (
      canonical,
      λ same.
          let mapped : as_found p.base (page_covering p.base ps) ≡ as_found p.base (Some p) = ap (as_found p.base) here in
          let not : as_found p.base (page_covering p.base qs) ≡ as_found p.base None = ap (as_found p.base) nothing in
          let clash : as_found p.base (Some p) ≡ as_found p.base None = sym mapped ∙ same ∙ not in
          cc,
    )

flipped : (depth : Depth) (ps qs : List Page) (address : ℕ) → DiffersAt depth ps qs address → DiffersAt depth qs ps address
flipped depth ps qs address differs = (differs.0, λ same. differs.1 (sym same))

-- below all pages of both lists nothing differs
none_below : (depth : Depth) (ps qs : List Page) (address : ℕ) → Above ps address → Above qs address → DiffersAt depth ps qs address → ⊥
none_below depth ps qs address left right differs =
    differs.1 (ap (as_found address) (nothing_covers ps address left ∙ sym (nothing_covers qs address right)))

-- of two pages with one base
both_at : (depth : Depth) (ps qs : List Page) (p q : Page) → p ≢ q → p.base ≡ q.base → IsCanonical depth p.base → DiffersAt depth (p ∷ ps) (q ∷ qs) p.base
both_at depth ps qs p q differ base canonical = (
  canonical,
  λ same.
      let left : as_found p.base (page_covering p.base (p ∷ ps)) ≡ as_found p.base (Some p) = ap (as_found p.base) (first_covers p ps) in
      let there : page_covering p.base (q ∷ qs) ≡ Some q = subst (λ a. page_covering a (q ∷ qs) ≡ Some q) (sym base) (first_covers q qs) in
      let right : as_found p.base (page_covering p.base (q ∷ qs)) ≡ as_found p.base (Some q) = ap (as_found p.base) there in
      let walked : as_found p.base (Some p) ≡ as_found p.base (Some q) = sym left ∙ same ∙ right in
      let size : p.size ≡ q.size = cc in
      let rights : p.rights ≡ q.rights = cc in
      let phys : p.phys + (p.base - p.base) ≡ q.phys + (p.base - q.base) = cc in
      differ (same_page p q base size (omega arith) rights),
)

pub least_of_heads : {depth : Depth} (ps qs : List Page) (base : ℕ) → ArePages depth ps → ArePages depth qs → HeadsDiffer ps qs base
    → IsLeast (DiffersAt depth ps qs) base
least_of_heads [] [] base left right h = absurd h
least_of_heads {depth} [] (q ∷ qs) base left right h =
    subst (IsLeast (DiffersAt depth [] (q ∷ qs))) (sym h) (
      flipped depth (q ∷ qs) [] q.base (one_alone depth (q ∷ qs) [] q (right.canonical q (Contains-head q qs)) (first_covers q qs) (above_nothing q.base)),
      λ address below. none_below depth [] (q ∷ qs) address (above_nothing address) (below_all q qs address (rises_first q qs right.rise) below),
    )
least_of_heads {depth} (p ∷ ps) [] base left right h =
    subst (IsLeast (DiffersAt depth (p ∷ ps) [])) (sym h) (
      one_alone depth (p ∷ ps) [] p (left.canonical p (Contains-head p ps)) (first_covers p ps) (above_nothing p.base),
      λ address below. none_below depth (p ∷ ps) [] address (below_all p ps address (rises_first p ps left.rise) below) (above_nothing address),
    )
least_of_heads {depth} (p ∷ ps) (q ∷ qs) base left right h = (
  ⊎_elim
      (λ (less : p.base < q.base). subst (DiffersAt depth (p ∷ ps) (q ∷ qs)) (let e = h.1 in omega arith)
      (one_alone depth (p ∷ ps) (q ∷ qs) p (left.canonical p (Contains-head p ps)) (first_covers p ps)
      (below_all q qs p.base (rises_first q qs right.rise) less)))
      (⊎_elim
      (λ (same : p.base ≡ q.base). subst (DiffersAt depth (p ∷ ps) (q ∷ qs)) (let e = h.1 in omega arith)
      (both_at depth ps qs p q h.0 same (left.canonical p (Contains-head p ps))))
      (λ (more : q.base < p.base). subst (DiffersAt depth (p ∷ ps) (q ∷ qs)) (let e = h.1 in omega arith)
      (flipped depth (q ∷ qs) (p ∷ ps) q.base
      (one_alone depth (q ∷ qs) (p ∷ ps) q (right.canonical q (Contains-head q qs)) (first_covers q qs)
      (below_all p ps q.base (rises_first p ps left.rise) more)))))
      (three p.base q.base),
  λ address below. none_below depth (p ∷ ps) (q ∷ qs) address
      (below_all p ps address (rises_first p ps left.rise) (let e = h.1 in omega arith))
      (below_all q qs address (rises_first q qs right.rise) (let e = h.1 in omega arith)),
)
  where
    three : (a b : ℕ) → (a < b) ⊎ ((a ≡ b) ⊎ (b < a))
    three a b = ⊎_elim (λ less. inl less) (λ le. ⊎_elim (λ more. inr (inr more)) (λ ge. inr (inl (omega arith))) (cases_lt b a)) (cases_lt a b)

-- ---- after pages that both have

base_of_head : (ps qs : List Page) (base : ℕ) → HeadsDiffer ps qs base
    → ((p : Page) × Contains ps p × (p.base ≡ base)) ⊎ ((q : Page) × Contains qs q × (q.base ≡ base))
base_of_head [] [] base h = absurd h
base_of_head [] (q ∷ qs) base h = inr (q, Contains-head q qs, sym h)
base_of_head (p ∷ ps) [] base h = inl (p, Contains-head p ps, sym h)
base_of_head (p ∷ ps) (q ∷ qs) base h =
    ⊎_elim
    (λ less. inl (p, Contains-head p ps, omega (arith, h.1)))
    (λ more. inr (q, Contains-head q qs, omega (arith, h.1)))
    (cases_lt p.base q.base)

-- the same page before both
one_before : (depth : Depth) (c : Page) (ps qs : List Page) (base : ℕ) → end_of c ≤ base → IsLeast (DiffersAt depth ps qs) base
    → IsLeast (DiffersAt depth (c ∷ ps) (c ∷ qs)) base
one_before depth c ps qs base behind least = (
  (least.0.0, λ same. least.0.1 (sym (ap (as_found base) (first_skipped c ps base not)) ∙ same ∙ ap (as_found base) (first_skipped c qs base not))),
  λ address below differs.
      elim (covers c address) as (λ b. covers c address ≡ b → ⊥) [
        | true ↦ λ is. differs.1 (ap (as_found address) (first_taken c ps address is ∙ sym (first_taken c qs address is)))
        | false ↦ λ is. least.1 address below (
          differs.0,
          λ same. differs.1 (
              ap (as_found address) (first_skipped c ps address is) ∙ same ∙ sym (ap (as_found address) (first_skipped c qs address is))),
        )
      ] refl,
)
  where
    not : covers c base ≡ false
    not = not_covered_behind c base behind

-- the least address at which two lists differ that are equal up to here
pub least_behind : {depth : Depth} (common ps qs : List Page) (base : ℕ) → ArePages depth (common ++ ps) → ArePages depth (common ++ qs)
    → HeadsDiffer ps qs base → IsLeast (DiffersAt depth (common ++ ps) (common ++ qs)) base
least_behind [] ps qs base left right h = least_of_heads ps qs base left right h
least_behind {depth} (c ∷ cs) ps qs base left right h =
    one_before depth c (cs ++ ps) (cs ++ qs) base
    (⊎_elim
    (λ p. subst (λ n. end_of c ≤ n) p.2 (ends_first c (cs ++ ps) left p.0 (Contains-append_right cs ps p.0 p.1)))
    (λ q. subst (λ n. end_of c ≤ n) q.2 (ends_first c (cs ++ qs) right q.0 (Contains-append_right cs qs q.0 q.1)))
    (base_of_head ps qs base h))
    (least_behind cs ps qs base (rest_are_pages c (cs ++ ps) left) (rest_are_pages c (cs ++ qs) right) h)
