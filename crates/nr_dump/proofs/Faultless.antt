-- A dump without a fault fits the space, and at most one fault is the first.
use Rattle.std.proofs.Common.{◌≡◌, ◌≢◌, ℕ, Bool, true, false, List, [], ◌∷◌, Option, Some, None, ◌⊎◌, inl, inr, ⊎_elim, refl, ap, ◌∙◌, arith}
use Rattle.std.proofs.Common.{min}
use Rattle.std.proofs.lemmas.Bool.{cases_eq, cases_lt}
use Rattle.vs_types.specs.Space.{Space, IsSpace, pages}
use Rattle.vs_types.specs.declared.addresses.depth.Depth.{Depth}
use Rattle.vs_types.specs.declared.addresses.page.Page.{Page}
use Rattle.vs_types.specs.declared.addresses.page.Rights.{Rights}
use Rattle.vs_types.specs.declared.addresses.page.Size.{Size}
use Rattle.vs_types.specs.declared.addresses.page.Size.TheVariants.{K4, M2, G1}
use Rattle.vs_types.proofs.Pages.{same_page}
use Rattle.vs_walk.specs.Traversal.{traversal, found, walk_fault}
use Rattle.vs_walk.specs.Differences.{IsStray}
use Rattle.vs_walk.specs.Dump.{Image}
use Rattle.vs_walk.specs.Memory.{AreWhole}
use Rattle.vs_walk.proofs.Leasts.{none_from_no_least, one_least}
use Rattle.vs_walk.specs.declared.walk.WalkFault.{WalkFault}
use Rattle.vs_walk.specs.declared.walk.WalkFault.TheVariants as walks
use Rattle.nr_dump.specs.declared.fault.DumpFault.{DumpFault}
use Rattle.nr_dump.specs.declared.fault.DumpFault.TheVariants.{MissingFrame, SharedFrame, ReservedBit, StrayFrame, Differs}
use Rattle.nr_dump.specs.Faults.{HoldsOfDump, rank_in_dump, IsFirstOfDump, HasNoFault, FitsSpace}
use Rattle.nr_dump.specs.inside.Comparing.{IsCompared}
use Rattle.nr_dump.proofs.Fitting.{NoneStray, fits_by_pages, first_difference}

-- ---- pages are equal or not

abbrev Decided : {X : Type 0} → X → X → Type 0
Decided x y = (x ≡ y) ⊎ (x ≢ y)

bools : (a b : Bool) → Decided a b
bools true false = inr (λ e. cc)
bools false true = inr (λ e. cc)
bools _ _ = inl refl

sizes : (a b : Size) → Decided a b
sizes K4 K4 = inl refl
sizes M2 M2 = inl refl
sizes G1 G1 = inl refl
sizes _ _ = inr (λ e. cc)

rights_of : (a b : Rights) → Decided a b
rights_of a b =
    ⊎_elim
    (λ write. ⊎_elim
    (λ user. ⊎_elim
    (λ exec. inl (λ i. record { write = write i; user = user i; exec = exec i }))
    (λ other. inr (λ e. other (ap (λ (r : Rights). r.exec) e)))
    (bools a.exec b.exec))
    (λ other. inr (λ e. other (ap (λ (r : Rights). r.user) e)))
    (bools a.user b.user))
    (λ other. inr (λ e. other (ap (λ (r : Rights). r.write) e)))
    (bools a.write b.write)

same_or_other : (p q : Page) → Decided p q
same_or_other p q =
    ⊎_elim
    (λ base. ⊎_elim
    (λ size. ⊎_elim
    (λ phys. ⊎_elim
    (λ rights. inl (same_page p q base size phys rights))
    (λ other. inr (λ e. other (ap (λ (r : Page). r.rights) e)))
    (rights_of p.rights q.rights))
    (λ other. inr (λ e. other (ap (λ (r : Page). r.phys) e)))
    (cases_eq p.phys q.phys))
    (λ other. inr (λ e. other (ap (λ (r : Page). r.size) e)))
    (sizes p.size q.size))
    (λ other. inr (λ e. other (ap (λ (r : Page). r.base) e)))
    (cases_eq p.base q.base)

-- two lists of pages are equal, or there is a first difference
compare_pages : (ps qs : List Page) → (answer : Option ℕ) × IsCompared ps qs answer
compare_pages [] [] = (None, refl)
compare_pages [] (q ∷ qs) = (Some q.base, ([], [], q ∷ qs, refl, refl, refl))
compare_pages (p ∷ ps) [] = (Some p.base, ([], p ∷ ps, [], refl, refl, refl))
compare_pages (p ∷ ps) (q ∷ qs) =
    ⊎_elim
    (λ same. behind p q same ps qs (compare_pages ps qs))
    (λ other. (Some (min p.base q.base), ([], p ∷ ps, q ∷ qs, refl, refl, (other, refl))))
    (same_or_other p q)
  where
    behind : (p q : Page) → p ≡ q → (ps qs : List Page) → (answer : Option ℕ) × IsCompared ps qs answer
        → (answer : Option ℕ) × IsCompared (p ∷ ps) (q ∷ qs) answer
    behind p q same ps qs (None, equal) = (None, ap (λ x. x ∷ ps) same ∙ ap (λ xs. q ∷ xs) equal)
    behind p q same ps qs (Some base, (common, left, right, is, are, h)) =
        (Some base, (q ∷ common, left, right, ap (λ x. x ∷ ps) same ∙ ap (λ xs. q ∷ xs) is, ap (λ xs. q ∷ xs) are, h))

-- ---- without a fault

way_without : (depth : Depth) (dump : Image) (space : Space) → HasNoFault depth dump space → walk_fault depth dump.frames dump.root ≡ None
way_without depth dump space clean = by_fault (walk_fault depth dump.frames dump.root) refl where
  by_fault : (fault : Option WalkFault) → walk_fault depth dump.frames dump.root ≡ fault → fault ≡ None
  by_fault None is = refl
  by_fault (Some (walks.Missing number)) is = absurd (clean (MissingFrame number) is)
  by_fault (Some (walks.Shared number)) is = absurd (clean (SharedFrame number) is)
  by_fault (Some (walks.Reserved number index)) is = absurd (clean (ReservedBit number index) is)

pub faultless_fits : (depth : Depth) (dump : Image) (space : Space) → AreWhole dump.frames → IsSpace depth space → HasNoFault depth dump space
    → FitsSpace depth dump space
faultless_fits depth dump space whole is clean = by_answer (compare_pages (found (traversal depth dump.frames dump.root)) (pages space)) where
  way : walk_fault depth dump.frames dump.root ≡ None
  way = way_without depth dump space clean

  stray : NoneStray depth dump
  stray = none_from_no_least (IsStray depth dump.frames dump.root) (λ number least. clean (StrayFrame number) least)

  by_answer : (answer : Option ℕ) × IsCompared (found (traversal depth dump.frames dump.root)) (pages space) answer → FitsSpace depth dump space
  by_answer (None, compared) = fits_by_pages depth dump space whole way stray compared
  by_answer (Some base, compared) = absurd (clean (Differs base) (first_difference depth dump.frames dump.root space base whole is way compared))

-- ---- the first fault

same_rank : (depth : Depth) (dump : Image) (space : Space) (fault other : DumpFault) → HoldsOfDump depth dump space fault → HoldsOfDump depth dump space other
    → rank_in_dump fault ≡ rank_in_dump other → fault ≡ other
same_rank depth dump space (MissingFrame a) (MissingFrame b) h k same = cc
same_rank depth dump space (MissingFrame a) (SharedFrame b) h k same = cc
same_rank depth dump space (MissingFrame a) (ReservedBit b i) h k same = cc
same_rank depth dump space (SharedFrame a) (MissingFrame b) h k same = cc
same_rank depth dump space (SharedFrame a) (SharedFrame b) h k same = cc
same_rank depth dump space (SharedFrame a) (ReservedBit b i) h k same = cc
same_rank depth dump space (ReservedBit a i) (MissingFrame b) h k same = cc
same_rank depth dump space (ReservedBit a i) (SharedFrame b) h k same = cc
same_rank depth dump space (ReservedBit a i) (ReservedBit b j) h k same = cc
same_rank depth dump space (StrayFrame a) (StrayFrame b) h k same = ap StrayFrame (one_least _ a b h k)
same_rank depth dump space (Differs a) (Differs b) h k same = ap Differs (one_least _ a b h k)
same_rank depth dump space _ _ h k same = absurd (omega arith)

pub one_first : (depth : Depth) (dump : Image) (space : Space) (fault other : DumpFault) → IsFirstOfDump depth dump space fault
    → IsFirstOfDump depth dump space other → fault ≡ other
one_first depth dump space fault other left right =
    same_rank depth dump space fault other left.holds right.holds
    (⊎_elim
    (λ less. absurd (right.none_earlier fault left.holds less))
    (λ le. ⊎_elim (λ more. absurd (left.none_earlier other right.holds more)) (λ ge. omega arith) (cases_lt (rank_in_dump other) (rank_in_dump fault)))
    (cases_lt (rank_in_dump fault) (rank_in_dump other)))
