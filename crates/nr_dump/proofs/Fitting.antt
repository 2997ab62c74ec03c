-- What a dump's pages, beside those of a space, say of its faults.
use Rattle.std.proofs.Common.{◌≡◌, ◌≢◌, ℕ, ◌+◌, ◌<◌, List, ◌∷◌, ◌++◌, length, get_or, Option, Some, None, ⊎_elim, refl, sym, subst, ◌∙◌, arith, Contains}
use Rattle.std.proofs.Common.{nat_eq}
use Rattle.std.specs.Prelude.{IsSome, IsTrue, ◌↔◌}
use Rattle.std.specs.FinMap as finite
use Rattle.std.specs.List.{IsDistinct, AllPairs}
use Rattle.std.proofs.lemmas.List.Elements.{All-contains}
use Rattle.std.proofs.lemmas.List.{length-append, get_or_append_left, get_or-append-add}
use Rattle.std.proofs.lemmas.Map.Made.{AllPairs-from_IsDistinct}
use Rattle.std.proofs.lemmas.Bool.Decides.{Decides-eqb}
use Rattle.vs_types.specs.Space.{Space, IsSpace, pages, page_at}
use Rattle.vs_types.specs.Step.{look}
use Rattle.vs_types.specs.declared.addresses.depth.Depth.{Depth}
use Rattle.vs_types.specs.declared.addresses.page.Page.{Page}
use Rattle.vs_walk.specs.Memory.{Memory, AreWhole}
use Rattle.vs_walk.specs.Walk.{as_walk, TranslatesAs}
use Rattle.vs_walk.specs.Traversal.{traversal, reached, found, walk_fault}
use Rattle.vs_walk.specs.Differences.{IsStray, TranslatesOtherwise, IsLeast}
use Rattle.vs_walk.specs.Dump.{Image}
use Rattle.vs_walk.specs.Laws.{as_found}
use Rattle.vs_walk.proofs.LawsOfTraversals.{faultless_walk, reached_distinct, reached_held, shared_reached}
use Rattle.vs_walk.proofs.LawsOfSpaces.{ArePages, found_are_pages, space_pages, found_translates, translates_shared}
use Rattle.nr_dump.specs.declared.fault.DumpFault.{DumpFault}
use Rattle.nr_dump.specs.declared.fault.DumpFault.TheVariants.{MissingFrame, SharedFrame, ReservedBit, StrayFrame, Differs}
use Rattle.nr_dump.specs.Faults.{HoldsOfDump, rank_in_dump, IsFirstOfDump, HasNoFault, FitsSpace}
use Rattle.nr_dump.specs.inside.Checking.{IsOutside}
use Rattle.nr_dump.specs.inside.Comparing.{IsCompared, mark}
use Rattle.nr_dump.proofs.Differing.{DiffersAt, least_behind}

-- ---- the first difference of the pages is the first of the translations

as_looked : (space : Space) (address : ℕ) (at : Option Page) → page_at space address ≡ at → as_walk (look space address) ≡ as_found address at
as_looked space address None e = rw e refl
as_looked space address (Some page) e = rw e refl

-- without a fault of the traversal the tables translate as their pages do
otherwise_by_pages : (depth : Depth) (memory : Memory) (root : ℕ) (space : Space) (address : ℕ) → AreWhole memory → walk_fault depth memory root ≡ None
    → DiffersAt depth (found (traversal depth memory root)) (pages space) address → TranslatesOtherwise depth memory root space address
otherwise_by_pages depth memory root space address whole none (canonical, differ) = (
  canonical,
  λ same. differ (sym (faultless_walk depth memory root address whole canonical none) ∙ same
      ∙ as_looked space address (page_at space address) refl),
)

pages_otherwise : (depth : Depth) (memory : Memory) (root : ℕ) (space : Space) (address : ℕ) → AreWhole memory → walk_fault depth memory root ≡ None
    → TranslatesOtherwise depth memory root space address → DiffersAt depth (found (traversal depth memory root)) (pages space) address
pages_otherwise depth memory root space address whole none (canonical, differ) = (
  canonical,
  λ same. differ (faultless_walk depth memory root address whole canonical none ∙ same
      ∙ sym (as_looked space address (page_at space address) refl)),
)

pub first_difference : (depth : Depth) (memory : Memory) (root : ℕ) (space : Space) (base : ℕ) → AreWhole memory → IsSpace depth space
    → walk_fault depth memory root ≡ None → IsCompared (found (traversal depth memory root)) (pages space) (Some base)
    → IsLeast (TranslatesOtherwise depth memory root space) base
first_difference depth memory root space base whole is none (common, left, right, ps, qs, h) =
    let least = subst (λ xs. IsLeast (DiffersAt depth xs (common ++ right)) base) (sym ps) (least_behind common left right base
    (subst (λ xs. ArePages depth xs) ps (found_are_pages depth memory root whole)) (subst (λ xs. ArePages depth xs) qs (space_pages is)) h) in
    let both = subst (λ xs. IsLeast (DiffersAt depth (found (traversal depth memory root)) xs) base) (sym qs) least in (
      otherwise_by_pages depth memory root space base whole none both.0,
      λ other below differs. both.1 other below (pages_otherwise depth memory root space other whole none differs),
    )

-- ---- a dump that fits has no fault, and one with a fault does not fit

-- no number is twice among distinct ones
once_only : (number : ℕ) (xs before after : List ℕ) → IsDistinct nat_eq xs → xs ≡ before ++ number ∷ after → Contains before number → ⊥
once_only number xs before after distinct parts (k, within, is) =
    let apart : AllPairs (λ x y. x ≢ y) (before ++ number ∷ after) =
    AllPairs-from_IsDistinct Decides-eqb (before ++ number ∷ after) (subst (IsDistinct nat_eq) parts distinct) in
    let first : get_or (before ++ number ∷ after) k number ≡ number = get_or_append_left before (number ∷ after) number k within ∙ is in
    let second : get_or (before ++ number ∷ after) (length before + 0) number ≡ number = get_or-append-add before (number ∷ after) 0 number in
    apart k (length before + 0) number (omega arith) (omega (arith, length-append before (number ∷ after))) (first ∙ sym second)

faultless_way : (depth : Depth) (memory : Memory) (root : ℕ) (space : Space) → AreWhole memory → TranslatesAs depth memory root space
    → IsDistinct nat_eq (reached (traversal depth memory root)) → walk_fault depth memory root ≡ None
faultless_way depth memory root space whole translates once =
    ⊎_elim
    (λ none. none)
    (λ shared.
    let twice = shared_reached depth memory root shared.0 shared.1 in
    absurd (once_only shared.0 (reached (traversal depth memory root)) twice.0 twice.1 once twice.2 twice.3))
    (translates_shared depth memory root space whole translates)

pub fits_faultless : (depth : Depth) (dump : Image) (space : Space) → AreWhole dump.frames → FitsSpace depth dump space → HasNoFault depth dump space
fits_faultless depth dump space whole fits = none where
  way : walk_fault depth dump.frames dump.root ≡ None
  way = faultless_way depth dump.frames dump.root space whole fits.translates fits.once

  none : HasNoFault depth dump space
  none (StrayFrame number) holds = fits.none_stray number holds.0
  none (Differs address) holds = holds.0.1 (fits.translates address holds.0.0)
  none _ holds = cc (holds, way)

-- ---- what check finds

abbrev pub NoneStray : Depth → Image → Type 0
NoneStray depth dump = (number : ℕ) → IsStray depth dump.frames dump.root number → ⊥

pub fits_by_pages : (depth : Depth) (dump : Image) (space : Space) → AreWhole dump.frames → walk_fault depth dump.frames dump.root ≡ None
    → NoneStray depth dump → IsCompared (found (traversal depth dump.frames dump.root)) (pages space) None → FitsSpace depth dump space
fits_by_pages depth dump space whole way stray same = record {
  translates = found_translates depth dump.frames dump.root space whole way same;
  once = reached_distinct depth dump.frames dump.root way;
  none_stray = stray;
}

-- before a stray frame come the faults of the traversal
pub stray_first : (depth : Depth) (dump : Image) (space : Space) (number : ℕ) → walk_fault depth dump.frames dump.root ≡ None
    → IsLeast (IsStray depth dump.frames dump.root) number → IsFirstOfDump depth dump space (StrayFrame number)
stray_first depth dump space number way least = record { holds = least; none_earlier = earlier } where
  earlier : (other : DumpFault) → HoldsOfDump depth dump space other → rank_in_dump other < 2 → ⊥
  earlier (MissingFrame other) holds less = cc (holds, way)
  earlier (SharedFrame other) holds less = cc (holds, way)
  earlier (ReservedBit other index) holds less = cc (holds, way)
  earlier (StrayFrame other) holds less = omega arith
  earlier (Differs address) holds less = omega arith

-- before an address that is translated otherwise come those, and the stray frames
pub difference_first : (depth : Depth) (dump : Image) (space : Space) (base : ℕ) → AreWhole dump.frames → IsSpace depth space
    → walk_fault depth dump.frames dump.root ≡ None → NoneStray depth dump
    → IsCompared (found (traversal depth dump.frames dump.root)) (pages space) (Some base) → IsFirstOfDump depth dump space (Differs base)
difference_first depth dump space base whole is way stray compared = record {
  holds = first_difference depth dump.frames dump.root space base whole is way compared;
  none_earlier = earlier;
}
  where
    earlier : (other : DumpFault) → HoldsOfDump depth dump space other → rank_in_dump other < 3 → ⊥
    earlier (StrayFrame other) holds less = stray other holds.0
    earlier (Differs address) holds less = omega arith
    earlier _ holds less = cc (holds, way)

-- the mark is no page of a space
pub unmarked : {depth : Depth} {space : Space} → IsSpace depth space → Contains (pages space) mark → ⊥
unmarked is has = let aligned = (space_pages is).aligned mark has in omega arith

-- ---- the frames that are reached, by a list with the same numbers

abbrev pub AreReached : Depth → Memory → ℕ → List ℕ → Type 0
AreReached depth memory root numbers = (number : ℕ) → Contains numbers number ↔ Contains (reached (traversal depth memory root)) number

pub reached_are_held : (depth : Depth) (memory : Memory) (root : ℕ) (numbers : List ℕ) → walk_fault depth memory root ≡ None
    → AreReached depth memory root numbers
    → (number : ℕ) → Contains numbers number → IsSome (finite.get memory number)
reached_are_held depth memory root numbers way are number has =
    All-contains (λ n. IsTrue (finite.contains_key memory n)) (reached (traversal depth memory root)) number (reached_held depth memory root way)
    ((are number).0 has)

stray_outside : (depth : Depth) (memory : Memory) (root : ℕ) (numbers : List ℕ) (number : ℕ) → AreReached depth memory root numbers
    → IsStray depth memory root number → IsOutside memory numbers number
stray_outside depth memory root numbers number are stray = (stray.0, λ has. stray.1 ((are number).0 has))

pub none_are_stray : (depth : Depth) (dump : Image) (numbers : List ℕ) → AreReached depth dump.frames dump.root numbers
    → ((number : ℕ) → IsOutside dump.frames numbers number → ⊥) → NoneStray depth dump
none_are_stray depth dump numbers are none number stray = none number (stray_outside depth dump.frames dump.root numbers number are stray)

pub least_stray : (depth : Depth) (memory : Memory) (root : ℕ) (numbers : List ℕ) (number : ℕ) → AreReached depth memory root numbers
    → IsLeast (IsOutside memory numbers) number → IsLeast (IsStray depth memory root) number
least_stray depth memory root numbers number are least = (
  (least.0.0, λ has. least.0.1 ((are number).1 has)),
  λ other below stray. least.1 other below (stray_outside depth memory root numbers other are stray),
)

-- ---- what was called with equal numbers

pub moved : {depth own : Depth} {root from : ℕ} (P : Depth → ℕ → Type 0) → own ≡ depth → from ≡ root → P own from → P depth root
moved {depth} {own} {root} {from} P same_depth same_root holds = subst (λ d. P d root) same_depth (subst (λ r. P own r) same_root holds)
