-- A memory translates as a space where the pages that are found in it are those of the space.
use Rattle.std.proofs.Common.{◌≡◌, ℕ, suc, ◌+◌, ◌-◌, ◌%◌, ◌^◌, ◌<◌, cond, List, [], ◌∷◌, map, Option, Some, None, get_or, refl, sym, ap, subst, ◌∙◌, ◌⊎◌, inl}
use Rattle.std.proofs.Common.{inr, ⊎_elim, arith, Contains, IsTrue}
use Rattle.std.specs.Prelude.{All}
use Rattle.std.specs.FinMap as finite
use Rattle.std.specs.FinMap.Entries as entries
use Rattle.std.specs.List.{AllPairs}
use Rattle.std.specs.Ordering.{nat_cmp, is_lt}
use Rattle.std.proofs.lemmas.Bool.{eq-eqb, ne_eqb}
use Rattle.std.proofs.lemmas.List.Elements.{All-nil, All-cons, All-head, All-tail, All-contains, All-weaker, All-map}
use lib.Dec.{T}
use Rattle.vs_types.specs.Depth.{IsCanonical}
use Rattle.vs_types.specs.Page.{bytes_of, covers, IsPageBelow}
use Rattle.vs_types.specs.Space.{Space, pages, IsSpace, page_at, page_covering}
use Rattle.vs_types.specs.Step.{look}
use Rattle.vs_types.specs.declared.addresses.depth.Depth.{Depth}
use Rattle.vs_types.specs.declared.addresses.page.Page.{Page}
use Rattle.vs_types.proofs.Lists.{Contains-head, Contains-tail, Contains-cases, not_in_nil, find_found, find_nothing}
use Rattle.vs_types.proofs.Pages.{covers_means, covers_base, same_page, same_aligned}
use Rattle.vs_types.proofs.Spaces.{same_key, is_true, both_true, below_key, holds_listed}
use Rattle.vs_walk.specs.Memory.{Memory, AreWhole}
use Rattle.vs_walk.specs.Walk.{TranslatesAs}
use Rattle.vs_walk.specs.Traversal.{traversal, found, walk_fault}
use Rattle.vs_walk.specs.Laws.{as_found}
use Rattle.vs_walk.specs.declared.walk.WalkFault.{WalkFault}
use Rattle.vs_walk.specs.declared.walk.WalkFault.TheVariants as faults
use Rattle.vs_walk.proofs.LawsOfTranslations.{not_reserved, not_missing}
use Rattle.vs_walk.proofs.LawsOfLists.{all_pairs_nil, all_pairs_one, all_pairs_append}
use Rattle.vs_walk.proofs.LawsOfRising.{pages_rise, pages_formed, bases_rise, rising_apart}
use Rattle.vs_walk.proofs.LawsOfWalks.{unfaulted, walk_is_found}
use Rattle.vs_walk.proofs.LawsOfTraversals.{faultless_walk, missing_walk, reserved_walk}

-- ---- lists of pages by rising base

abbrev pub Rise : List Page → Type 0
Rise = AllPairs (λ p q. p.base < q.base)

pub rises_first : (p : Page) (ps : List Page) → Rise (p ∷ ps) → (q : Page) → Contains ps q → p.base < q.base
rises_first p ps rise q (k, within, is) = subst (λ x. p.base < x.base) is (rise 0 (suc k) q (omega arith) (omega arith))

pub rises_rest : (p : Page) (ps : List Page) → Rise (p ∷ ps) → Rise ps
rises_rest p ps rise i j d lt within = rise (suc i) (suc j) d (omega arith) (omega arith)

-- two such lists of the same pages are equal
pub same_rising : (ps qs : List Page) → Rise ps → Rise qs → ((x : Page) → Contains ps x → Contains qs x) → ((x : Page) → Contains qs x → Contains ps x)
    → ps ≡ qs
same_rising [] [] left right forth back = refl
same_rising [] (q ∷ qs) left right forth back = absurd (not_in_nil q (back q (Contains-head q qs)))
same_rising (p ∷ ps) [] left right forth back = absurd (not_in_nil p (forth p (Contains-head p ps)))
same_rising (p ∷ ps) (q ∷ qs) left right forth back =
    let first : p ≡ q = ⊎_elim
    (λ same. sym same)
    (λ later. ⊎_elim
    (λ same. same)
    (λ further. absurd (turned q.base p.base (rises_first q qs right p later) (rises_first p ps left q further)))
    (Contains-cases p ps q (back q (Contains-head q qs))))
    (Contains-cases q qs p (forth p (Contains-head p ps))) in
    ap (λ x. x ∷ ps) first ∙ ap (λ xs. q ∷ xs) (same_rising ps qs (rises_rest p ps left) (rises_rest q qs right)
    (λ x h. ⊎_elim
    (λ same. absurd (apart p x (first ∙ same) (rises_first p ps left x h)))
    (λ later. later)
    (Contains-cases q qs x (forth x (Contains-tail p ps x h))))
    (λ x h. ⊎_elim
    (λ same. absurd (apart q x (sym first ∙ same) (rises_first q qs right x h)))
    (λ later. later)
    (Contains-cases p ps x (back x (Contains-tail q qs x h)))))
  where
    turned : (a b : ℕ) → a < b → b < a → ⊥
    turned a b less more = omega arith

    apart : (a b : Page) → a ≡ b → a.base < b.base → ⊥
    apart a b same less = let base : a.base ≡ b.base = ap (λ (z : Page). z.base) same in omega arith

-- ---- pages by what they make of walks

-- well-formed pages, of which no two cover one address
pub record ArePages (depth : Depth) (ps : List Page) : Type 0 where
  pub canonical : (p : Page) → Contains ps p → IsCanonical depth p.base
  pub aligned : (p : Page) → Contains ps p → p.base % bytes_of p.size ≡ 0
  pub apart : (p q : Page) (address : ℕ) → Contains ps p → Contains ps q → IsTrue (covers p address) → IsTrue (covers q address) → p ≡ q
  pub rise : AllPairs (λ p q. p.base < q.base) ps

covering_own : {depth : Depth} {ps : List Page} → ArePages depth ps → (p : Page) → Contains ps p → page_covering p.base ps ≡ Some p
covering_own {depth} {ps} are p in_ps =
    elim (page_covering p.base ps) as (λ o. page_covering p.base ps ≡ o → o ≡ Some p) [
      | None ↦ λ e. let other = find_nothing (λ x. covers x p.base) ps p e in_ps in let here = covers_base p in cc
      | Some q ↦ λ e. let there = find_found (λ x. covers x p.base) ps q e in ap Some (are.apart q p p.base there.0 in_ps there.1 (covers_base p))
    ] refl

same_by_walk : (p q : Page) → p.base % bytes_of p.size ≡ 0 → q.base % bytes_of q.size ≡ 0 → IsTrue (covers q p.base)
    → as_found p.base (Some q) ≡ as_found p.base (Some p) → q ≡ p
same_by_walk p q p_aligned q_aligned covered look =
    let size : q.size ≡ p.size = cc in
    let phys : q.phys + (p.base - q.base) ≡ p.phys + (p.base - p.base) = cc in
    let in_q = (covers_means q p.base).0 covered in
    let base : q.base ≡ p.base = same_aligned q.size p.base q.base (subst (λ z. p.base % bytes_of z ≡ 0) (sym size) p_aligned) q_aligned in_q.0 in_q.1 in
    same_page q p base size (omega arith) (cc)

-- a page of the one is a page of the other
pub in_other : {depth : Depth} {ps qs : List Page} → ArePages depth ps → ArePages depth qs
    → ((address : ℕ) → IsCanonical depth address → as_found address (page_covering address ps) ≡ as_found address (page_covering address qs)) → (p : Page)
    → Contains ps p → Contains qs p
in_other {depth} {ps} {qs} left right alike p in_ps =
    let own : as_found p.base (page_covering p.base ps) ≡ as_found p.base (Some p) = ap (as_found p.base) (covering_own left p in_ps) in
    let same : as_found p.base (Some p) ≡ as_found p.base (page_covering p.base qs) = sym own ∙ alike p.base (left.canonical p in_ps) in
    elim (page_covering p.base qs) as (λ o. page_covering p.base qs ≡ o → as_found p.base (Some p) ≡ as_found p.base o → Contains qs p) [
      | None ↦ λ e is. cc
      | Some q ↦ λ e is.
          let there = find_found (λ x. covers x p.base) qs q e in
          subst (Contains qs) (same_by_walk p q (left.aligned p in_ps) (right.aligned q there.0) there.1 (sym is)) there.0
    ] refl same

pub same_pages : {depth : Depth} {ps qs : List Page} → ArePages depth ps → ArePages depth qs
    → ((address : ℕ) → IsCanonical depth address → as_found address (page_covering address ps) ≡ as_found address (page_covering address qs)) → ps ≡ qs
same_pages {ps = ps} {qs = qs} left right alike =
    same_rising ps qs left.rise right.rise (in_other left right alike) (in_other right left (λ address canonical. sym (alike address canonical)))

pub found_are_pages : (depth : Depth) (memory : Memory) (root : ℕ) → AreWhole memory → ArePages depth (found (traversal depth memory root))
found_are_pages depth memory root whole = record {
  canonical = λ p in_ps. (formed p in_ps).canonical;
  aligned = λ p in_ps. (formed p in_ps).aligned;
  apart = rising_apart (found (traversal depth memory root)) (pages_rise depth memory root whole);
  rise = bases_rise (found (traversal depth memory root)) (pages_rise depth memory root whole);
}
  where
    formed : (p : Page) → Contains (found (traversal depth memory root)) p → IsPageBelow (2 ^ 52) depth p
    formed p in_ps = All-contains (IsPageBelow (2 ^ 52) depth) (found (traversal depth memory root)) p (pages_formed depth memory root whole) in_ps

-- ---- the pages of a space

above_all : (low : ℕ) (es : List (ℕ × Page)) → T (entries.below_all nat_cmp low es) → All (λ e. low < e.0) es
above_all low [] h = All-nil _
above_all low (e ∷ es) h =
    let parts = both_true (is_lt (nat_cmp low e.0)) (entries.below_all nat_cmp low es) h in
    All-cons (λ e. low < e.0) e es (below_key low e.0 (is_true _ parts.0)) (above_all low es parts.1)

-- each entry is found at its key
all_at_keys : (es : List (ℕ × Page)) → T (entries.is_sorted nat_cmp es) → All (λ e. entries.find nat_cmp e.0 es ≡ Some e.1) es
all_at_keys [] s = All-nil _
all_at_keys (e ∷ es) s =
    let parts = both_true (entries.below_all nat_cmp e.0 es) (entries.is_sorted nat_cmp es) s in
    All-cons (λ x. entries.find nat_cmp x.0 (e ∷ es) ≡ Some x.1) e es
    (ap (λ b. cond b (Some e.1) (entries.find nat_cmp e.0 es)) (same_key e.0 e.0 ∙ eq-eqb e.0 e.0 refl))
    (λ k d lt.
    let at = all_at_keys es parts.1 k d lt in
    let less = above_all e.0 es parts.0 k d lt in
    ap (λ b. cond b (Some e.1) (entries.find nat_cmp (get_or es k d).0 es))
    (same_key (get_or es k d).0 e.0 ∙ ne_eqb (get_or es k d).0 e.0 (λ same. omega arith)) ∙ at)

-- pages that are under their bases rise where their keys do
rise_by_keys : (es : List (ℕ × Page)) → T (entries.is_sorted nat_cmp es) → All (λ e. e.1.base ≡ e.0) es → Rise (map (λ e. e.1) es)
rise_by_keys [] s keyed = all_pairs_nil (λ p q. p.base < q.base)
rise_by_keys (e ∷ es) s keyed =
    let parts = both_true (entries.below_all nat_cmp e.0 es) (entries.is_sorted nat_cmp es) s in
    let base : e.1.base ≡ e.0 = All-head (λ x. x.1.base ≡ x.0) e es keyed in
    let rest : All (λ x. x.1.base ≡ x.0) es = All-tail (λ x. x.1.base ≡ x.0) e es keyed in
    let later : All (λ x. e.1.base < x.1.base) es = λ k d lt. let less = above_all e.0 es parts.0 k d lt in let own = rest k d lt in omega arith in
    all_pairs_append (λ p q. p.base < q.base) (e.1 ∷ []) (map (λ x. x.1) es) (all_pairs_one (λ p q. p.base < q.base) e.1) (rise_by_keys es parts.1 rest)
    (All-cons (λ p. All (λ q. p.base < q.base) (map (λ x. x.1) es)) e.1 [] (All-map (λ q. e.1.base < q.base) (λ x. x.1) es later) (All-nil _))

pub space_rises : {depth : Depth} {space : Space} → IsSpace depth space → AllPairs (λ p q. p.base < q.base) (pages space)
space_rises {depth} {space} is = rise_by_keys (finite.entries space) (finite.entries_sorted space)
    (All-weaker (λ e. entries.find nat_cmp e.0 (finite.entries space) ≡ Some e.1) (λ e. e.1.base ≡ e.0)
    (λ e at. is.under_base e.0 e.1 (finite.get-entries space e.0 ∙ at)) (finite.entries space)
    (all_at_keys (finite.entries space) (finite.entries_sorted space)))

pub space_pages : {depth : Depth} {space : Space} → IsSpace depth space → ArePages depth (pages space)
space_pages {depth} {space} is = record {
  canonical = λ p in_ps. (is.well_formed p ((holds_listed is p).0 in_ps)).canonical;
  aligned = λ p in_ps. (is.well_formed p ((holds_listed is p).0 in_ps)).aligned;
  apart = λ p q address in_p in_q. is.apart p q address ((holds_listed is p).0 in_p) ((holds_listed is q).0 in_q);
  rise = space_rises is;
}

-- ---- memories and spaces

pub found_translates : (depth : Depth) (memory : Memory) (root : ℕ) (space : Space) → AreWhole memory → walk_fault depth memory root ≡ None
    → found (traversal depth memory root) ≡ pages space → TranslatesAs depth memory root space
found_translates depth memory root space whole none same address canonical =
    faultless_walk depth memory root address whole canonical none
    ∙ ap (λ ps. as_found address (page_covering address ps)) same

found_well : (address : ℕ) (page : Option Page) → unfaulted (as_found address page) ≡ as_found address page
found_well address None = refl
found_well address (Some page) = refl

pub translates_found : (depth : Depth) (memory : Memory) (root : ℕ) (space : Space) → AreWhole memory → IsSpace depth space
    → TranslatesAs depth memory root space → found (traversal depth memory root) ≡ pages space
translates_found depth memory root space whole is translates =
    same_pages (found_are_pages depth memory root whole) (space_pages is) (λ address canonical.
    sym (walk_is_found depth memory root address whole canonical)
    ∙ ap unfaulted (translates address canonical)
    ∙ found_well address (page_at space address))

-- of faults, the traversal of a memory that translates as a space can meet only a shared frame
pub translates_shared : (depth : Depth) (memory : Memory) (root : ℕ) (space : Space) → AreWhole memory → TranslatesAs depth memory root space
    → (walk_fault depth memory root ≡ None) ⊎ ((number : ℕ) × (walk_fault depth memory root ≡ Some (faults.Shared number)))
translates_shared depth memory root space whole translates = by_fault (walk_fault depth memory root) refl where
  by_fault : (fault : Option WalkFault) → walk_fault depth memory root ≡ fault → (fault ≡ None) ⊎ ((number : ℕ) × (fault ≡ Some (faults.Shared number)))
  by_fault None is = inl refl
  by_fault (Some (faults.Missing number)) is =
      let met = missing_walk depth memory root number whole is in
      absurd (not_missing depth memory root space met.0 translates met.1 met.2)
  by_fault (Some (faults.Shared number)) is = inr (number, refl)
  by_fault (Some (faults.Reserved number index)) is =
      let met = reserved_walk depth memory root number index whole is in
      absurd (not_reserved depth memory root space met.0 translates met.1 met.2)
