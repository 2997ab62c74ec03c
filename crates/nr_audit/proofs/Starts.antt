-- What the check of a start says of its faults.
use Rattle.std.proofs.Common.{◌≡◌, ℕ, ◌<◌, ◌≤◌, List, get_or, slice_get, Option, Some, None, Result, Ok, Err, inl, inr, refl, sym, ap, ◌∙◌, subst, arith, lit<, lit≤}
use Rattle.std.proofs.Common.{Contains}
use Rattle.std.specs.Prelude.{All, IfErr, IfOk, OnOk}
use Rattle.std.specs.List.{AllPairs}
use Rattle.std.proofs.lemmas.Bool.{cases_lt}
use Rattle.std.proofs.lemmas.Option.{slice_get_within, slice_get-get_or, get_or_from_slice_get}
use Rattle.std.proofs.lemmas.List.Elements.{All-contains, All-contains_itself, All-weaker}
use Rattle.vs_types.specs.Page.{IsPage}
use Rattle.vs_types.specs.Space.{Space, IsSpace, pages}
use Rattle.vs_types.specs.declared.addresses.depth.Depth.{Depth}
use Rattle.vs_types.specs.declared.addresses.page.Page.{Page}
use Rattle.vs_types.proofs.Spaces.{holds_listed}
use Rattle.vs_types.specs.Step.{look}
use Rattle.vs_types.specs.Refusal.{IfRefused}
use Rattle.vs_types.specs.declared.requests.refusal.Fail.{Fail}
use Rattle.vs_types.specs.declared.requests.refusal.Fail.TheVariants.{Refused}
use Rattle.vs_walk.specs.Differences.{IsLeast, IsStray, TranslatesOtherwise}
use Rattle.vs_walk.specs.Dump.{Image}
use Rattle.vs_walk.specs.Memory.{AreWhole}
use Rattle.vs_walk.specs.Traversal.{walk_fault, found_in}
use Rattle.vs_walk.specs.Walk.{walk, as_walk, TranslatesAs}
use Rattle.vs_walk.specs.declared.walk.WalkFault.{WalkFault}
use Rattle.vs_walk.specs.declared.walk.WalkFault.TheVariants as walks
use Rattle.vs_walk.proofs.LawsOfRising.{pages_formed}
use Rattle.vs_walk.proofs.LawsOfSpaces.{found_are_pages}
use Rattle.vs_walk.proofs.Leasts.{none_from_no_least, one_least}
use Rattle.nr_dump.specs.Faults.{HoldsOfDump, IsFirstOfDump, HasNoFault, rank_in_dump}
use Rattle.nr_dump.specs.declared.fault.DumpFault.{DumpFault}
use Rattle.nr_dump.specs.declared.fault.DumpFault.TheVariants as dumps
use Rattle.nr_trace.specs.Recording.{Recording}
use Rattle.nr_trace.specs.Faults.{Earlier}
use Rattle.nr_trace.specs.declared.refusals.fault.Fault.{Fault}
use Rattle.nr_trace.specs.declared.refusals.fault.Fault.TheVariants.{StartMissing, StartShared, StartReserved, StartStray, StartBeyond, StartDiffers}
use Rattle.nr_trace.proofs.LawsOfFaults.{pass, index_of, number_of, earlier_parts}
use Rattle.nr_audit.specs.Start.{HasPageBeyond, HasStartFault, HoldsOfStart, BeginsRight, BeginsWrong}
use Rattle.nr_audit.specs.inside.Begun.{rank_in_start, AreApart, EndsBeyond, HasNoneBeyond, HasNoStartFault, HasRightTables, IsFirstBeyond, IsFirstOfStart}

-- no first fault of the traversal is none
no_walk_fault : (depth : Depth) (dump : Image) → ((fault : WalkFault) → walk_fault depth dump.frames dump.root ≡ Some fault → ⊥)
    → walk_fault depth dump.frames dump.root ≡ None
no_walk_fault depth dump none =
    elim (walk_fault depth dump.frames dump.root) as (λ o. walk_fault depth dump.frames dump.root ≡ o → o ≡ None) [
      | None ↦ λ e. refl
      | Some fault ↦ λ e. absurd (none fault e)
    ] refl

pub none_walked : (depth : Depth) (dump : Image) → ((number : ℕ) → walk_fault depth dump.frames dump.root ≡ Some (walks.Missing number) → ⊥)
    → ((number : ℕ) → walk_fault depth dump.frames dump.root ≡ Some (walks.Shared number) → ⊥)
    → ((number index : ℕ) → walk_fault depth dump.frames dump.root ≡ Some (walks.Reserved number index) → ⊥)
    → walk_fault depth dump.frames dump.root ≡ None
none_walked depth dump missing shared reserved = no_walk_fault depth dump each where
  each : (fault : WalkFault) → walk_fault depth dump.frames dump.root ≡ Some fault → ⊥
  each (walks.Missing number) e = missing number e
  each (walks.Shared number) e = shared number e
  each (walks.Reserved number index) e = reserved number index e

pub right_tables : (depth : Depth) (start : Image) (space : Space) (rank : ℕ) → 3 ≤ rank
    → ((other : DumpFault) → HoldsOfDump depth start space other → rank_in_dump other < rank → ⊥) → HasRightTables depth start
right_tables depth start space rank le none = record {
  walked = none_walked depth start
      (λ number e. none (dumps.MissingFrame number) e (omega arith))
      (λ number e. none (dumps.SharedFrame number) e (omega arith))
      (λ number index e. none (dumps.ReservedBit number index) e (omega arith));
  none_stray = none_from_no_least (IsStray depth start.frames start.root) (λ number stray. none (dumps.StrayFrame number) stray (omega arith));
}

pub faultless_tables : (depth : Depth) (start : Image) (space : Space) → HasNoFault depth start space → HasRightTables depth start
faultless_tables depth start space none = right_tables depth start space 3 (omega arith) (λ other holds less. none other holds)

pub stray_first : (depth : Depth) (before : Option Space) (start : Image) (space : Space) (number : ℕ)
    → IsFirstOfDump depth start space (dumps.StrayFrame number) → IsFirstOfStart depth before start (StartStray number)
stray_first depth before start space number first = record { holds = first.holds; none_earlier = none } where
  none : (other : Fault) → HoldsOfStart depth before start other → rank_in_start other < 2 → ⊥
  none (StartMissing number) h less = first.none_earlier (dumps.MissingFrame number) h (omega arith)
  none (StartShared number) h less = first.none_earlier (dumps.SharedFrame number) h (omega arith)
  none (StartReserved number index) h less = first.none_earlier (dumps.ReservedBit number index) h (omega arith)
  none (StartStray number) h less = omega arith
  none (StartBeyond base) h less = omega arith
  none (StartDiffers address) h less = omega arith
  none _ h less = h

-- where the tables are right
module _ (depth : Depth) (before : Option Space) (start : Image) (right : HasRightTables depth start) where
  tables_none : (other : Fault) → rank_in_start other < 3 → HoldsOfStart depth before start other → ⊥
  tables_none (StartMissing number) less h = let none = right.walked in cc
  tables_none (StartShared number) less h = let none = right.walked in cc
  tables_none (StartReserved number index) less h = let none = right.walked in cc
  tables_none (StartStray number) less h = right.none_stray number h.0
  tables_none (StartBeyond base) less h = absurd (omega arith)
  tables_none (StartDiffers address) less h = absurd (omega arith)
  tables_none _ less h = h

  pub beyond_first : (base : ℕ) → HoldsOfStart depth before start (StartBeyond base) → IsFirstOfStart depth before start (StartBeyond base)
  beyond_first base holds = record { holds = holds; none_earlier = λ other h less. tables_none other less h }

  none_beyond : All (IsPage depth) (found_in depth start) → (base : ℕ) → HasPageBeyond depth start base → ⊥
  none_beyond formed base h = let page = All-contains (IsPage depth) (found_in depth start) h.0 formed h.1 in omega (arith, page.phys_range, h.3)

  pub differs_first : All (IsPage depth) (found_in depth start) → (address : ℕ) → HoldsOfStart depth before start (StartDiffers address)
      → IsFirstOfStart depth before start (StartDiffers address)
  differs_first formed address holds = record { holds = holds; none_earlier = none } where
    none : (other : Fault) → HoldsOfStart depth before start other → rank_in_start other < 4 → ⊥
    none (StartMissing number) h less = tables_none (StartMissing number) (lit< tt) h
    none (StartShared number) h less = tables_none (StartShared number) (lit< tt) h
    none (StartReserved number index) h less = tables_none (StartReserved number index) (lit< tt) h
    none (StartStray number) h less = tables_none (StartStray number) (lit< tt) h
    none (StartBeyond base) h less = none_beyond formed base h.0
    none (StartDiffers address) h less = omega arith
    none _ h less = h

  pub none_of_start : All (IsPage depth) (found_in depth start) → ((address : ℕ) → HoldsOfStart depth before start (StartDiffers address) → ⊥)
      → HasNoStartFault depth before start
  none_of_start formed differs (StartMissing number) h = tables_none (StartMissing number) (lit< tt) h
  none_of_start formed differs (StartShared number) h = tables_none (StartShared number) (lit< tt) h
  none_of_start formed differs (StartReserved number index) h = tables_none (StartReserved number index) (lit< tt) h
  none_of_start formed differs (StartStray number) h = tables_none (StartStray number) (lit< tt) h
  none_of_start formed differs (StartBeyond base) h = none_beyond formed base h.0
  none_of_start formed differs (StartDiffers address) h = differs address h
  none_of_start formed differs _ h = h

-- a start that translates as a space differs from it nowhere
pub none_differs : (depth : Depth) (start : Image) (space : Space) → TranslatesAs depth start.frames start.root space
    → (address : ℕ) → HoldsOfStart depth (Some space) start (StartDiffers address) → ⊥
none_differs depth start space translates address (other, is, differs) =
    let same : space ≡ other = cc in
    differs.0.1 (subst (λ s. walk depth start.frames start.root address ≡ as_walk (look s address)) same (translates address differs.0.0))

-- the first page that ends too high is the one with the least base
first_is_least : (ps : List Page) → AllPairs (λ p q. p.base < q.base) ps → (index : ℕ) (page : Page) → slice_get ps index ≡ Some page
    → ((lower : ℕ) (other : Page) → lower < index → slice_get ps lower ≡ Some other → EndsBeyond other → ⊥)
    → (p : Page) → Contains ps p → EndsBeyond p → p.base < page.base → ⊥
first_is_least ps rise index page at none p (j, lt, is) beyond less = elim (cases_lt j index) [
  | inl low ↦ none j p low (slice_get-get_or ps j p lt ∙ ap Some is) beyond
  | inr high ↦ elim (cases_lt index j) [
    | inl above ↦ (
        let rises = rise index j p above lt in
        let low : page.base < p.base = subst (λ (q : Page). q.base < p.base) (get_or_from_slice_get ps index page p at)
        (subst (λ (q : Page). (get_or ps index p).base < q.base) is rises) in
        omega arith)
    | inr below ↦ (
        let same : index ≡ j = omega arith in
        let one : page ≡ p = sym (get_or_from_slice_get ps index page p at) ∙ ap (λ i. get_or ps i p) same ∙ is in
        let bases : page.base ≡ p.base = ap (λ (q : Page). q.base) one in
        omega arith)
  ]
]

pub least_beyond : (depth : Depth) (start : Image) (base : ℕ) → AreWhole start.frames → IsFirstBeyond (found_in depth start) base
    → IsLeast (HasPageBeyond depth start) base
least_beyond depth start base whole (index, page, at, base_is, beyond, none) = (
  (page, (index, slice_get_within (found_in depth start) index page at, get_or_from_slice_get (found_in depth start) index page page at), base_is, beyond),
  λ other less has.
      first_is_least (found_in depth start) (found_are_pages depth start.frames start.root whole).rise index page at none has.0 has.1 has.3
      (let own = has.2 in omega (arith, own, base_is)),
)

-- where none ends too high, the pages are those of a space
pub found_apart : (depth : Depth) (start : Image) → AreWhole start.frames → HasNoneBeyond (found_in depth start) → AreApart depth (found_in depth start)
found_apart depth start whole none =
    let are = found_are_pages depth start.frames start.root whole in
    record {
      well_formed = λ k d lt.
          let page = pages_formed depth start.frames start.root whole k d lt in
          record { canonical = page.canonical; aligned = page.aligned; phys_aligned = page.phys_aligned; phys_range = none k d lt };
      rise = are.rise;
      apart = are.apart;
    }

-- the pages of a space are well formed
pub own_formed : {depth : Depth} {space : Space} → IsSpace depth space → (ps : List Page) → ps ≡ pages space → All (IsPage depth) ps
own_formed {depth} {space} is ps same = subst (All (IsPage depth)) (sym same)
    (All-weaker (Contains (pages space)) (IsPage depth) (λ page h. is.well_formed page ((holds_listed is page).0 h)) (pages space)
    (All-contains_itself (pages space)))

-- ---- the order of the faults of a start

-- a fault of a start is of the first pass, in which its index is its rank
record OfStart (segment : Recording) (fault : Fault) : Type 0 where
  pub first : pass fault ≡ 1
  pub indexed : index_of segment fault ≡ rank_in_start fault
  pub some : 1 ≤ rank_in_start fault

of_start : (segment : Recording) (depth : Depth) (before : Option Space) (start : Image) (fault : Fault) → HoldsOfStart depth before start fault
    → OfStart segment fault
of_start segment depth before start (StartMissing number) h = record { first = refl; indexed = refl; some = lit≤ tt }
of_start segment depth before start (StartShared number) h = record { first = refl; indexed = refl; some = lit≤ tt }
of_start segment depth before start (StartReserved number index) h = record { first = refl; indexed = refl; some = lit≤ tt }
of_start segment depth before start (StartStray number) h = record { first = refl; indexed = refl; some = lit≤ tt }
of_start segment depth before start (StartBeyond base) h = record { first = refl; indexed = refl; some = lit≤ tt }
of_start segment depth before start (StartDiffers address) h = record { first = refl; indexed = refl; some = lit≤ tt }
of_start segment depth before start _ h = absurd h

same_start : (depth : Depth) (before : Option Space) (start : Image) (first second : Fault) → 1 ≤ rank_in_start first → HoldsOfStart depth before start first
    → HoldsOfStart depth before start second → rank_in_start first ≡ rank_in_start second → first ≡ second
same_start depth before start (StartMissing a) (StartMissing b) some h k same = cc
same_start depth before start (StartMissing a) (StartShared b) some h k same = cc
same_start depth before start (StartMissing a) (StartReserved b i) some h k same = cc
same_start depth before start (StartShared a) (StartMissing b) some h k same = cc
same_start depth before start (StartShared a) (StartShared b) some h k same = cc
same_start depth before start (StartShared a) (StartReserved b i) some h k same = cc
same_start depth before start (StartReserved a i) (StartMissing b) some h k same = cc
same_start depth before start (StartReserved a i) (StartShared b) some h k same = cc
same_start depth before start (StartReserved a i) (StartReserved b j) some h k same = cc
same_start depth before start (StartStray a) (StartStray b) some h k same = ap StartStray (one_least (IsStray depth start.frames start.root) a b h k)
same_start depth before start (StartBeyond a) (StartBeyond b) some h k same = ap StartBeyond (one_least (HasPageBeyond depth start) a b h k)
same_start depth before start (StartDiffers a) (StartDiffers b) some (space, is, h) (other, other_is, k) same =
    let one : space ≡ other = cc in
    ap StartDiffers (one_least (TranslatesOtherwise depth start.frames start.root other) a b
    (subst (λ s. IsLeast (TranslatesOtherwise depth start.frames start.root s) a) one h) k)
same_start depth before start first second some h k same = absurd (omega arith)

-- of two that hold the earlier one has the lower rank
earlier_rank : (segment : Recording) (depth : Depth) (before : Option Space) (start : Image) (first second : Fault)
    → HoldsOfStart depth before start first → HoldsOfStart depth before start second → Earlier segment first second
    → rank_in_start first < rank_in_start second
earlier_rank segment depth before start first second h k less =
    let a = of_start segment depth before start first h in
    let b = of_start segment depth before start second k in
    elim (earlier_parts segment first second less) [
      | inl low ↦ absurd (omega (arith, low, a.first, b.first))
      | inr rest ↦ elim rest [
        | inl same ↦ omega (arith, same.1, a.indexed, b.indexed)
        | inr same ↦ absurd (
            let ranks : rank_in_start first ≡ rank_in_start second = sym a.indexed ∙ same.1 ∙ b.indexed in
            let one = ap (number_of segment) (same_start depth before start first second a.some h k ranks) in
            omega (arith, one, same.2))
      ]
    ]

-- ---- the start of a segment

one_image : (segment : Recording) (start other : Image) → segment.start ≡ Some start → segment.start ≡ Some other → other ≡ start
one_image segment start other is other_is = cc

-- a fault of a segment's start is one of the first pass; and at most one of them has a rank
pub start_pass : (before : Option Space) (segment : Recording) (fault : Fault) → HasStartFault before segment fault → pass fault ≡ 1
start_pass before segment fault (start, is, holds) = (of_start segment segment.layout.depth before start fault holds).first

pub one_start : (before : Option Space) (segment : Recording) (first second : Fault) → HasStartFault before segment first
    → HasStartFault before segment second → rank_in_start first ≡ rank_in_start second → first ≡ second
one_start before segment first second (start, is, h) (other, other_is, k) same =
    same_start segment.layout.depth before start first second (of_start segment segment.layout.depth before start first h).some h
    (subst (λ (s : Image). HoldsOfStart segment.layout.depth before s second) (one_image segment start other is other_is) k) same

pub begins_right : (before : Option Space) (segment : Recording) (start : Image) (depth : Depth) → segment.start ≡ Some start → depth ≡ segment.layout.depth
    → HasNoStartFault depth before start → BeginsRight before segment
begins_right before segment start depth is same none fault (other, other_is, holds) =
    none fault (subst (λ d. HoldsOfStart d before start fault) (sym same)
    (subst (λ (s : Image). HoldsOfStart segment.layout.depth before s fault) (one_image segment start other is other_is) holds))

pub begins_wrong : (before : Option Space) (segment : Recording) (start : Image) (depth : Depth) (fault : Fault) → segment.start ≡ Some start
    → depth ≡ segment.layout.depth → IsFirstOfStart depth before start fault → BeginsWrong before segment fault
begins_wrong before segment start depth fault is same first = record {
  holds = (start, is, subst (λ d. HoldsOfStart d before start fault) same first.holds);
  none_earlier = λ earlier (other, other_is, holds) less.
      let own = subst (λ d. HoldsOfStart d before start earlier) (sym same)
      (subst (λ (s : Image). HoldsOfStart segment.layout.depth before s earlier) (one_image segment start other is other_is) holds) in
      first.none_earlier earlier own (earlier_rank segment depth before start earlier fault own first.holds less);
}

pub on_ok : {A E : Type 0} (P Q : Type 0) (result : Result A E) → (P → Q) → OnOk result P → OnOk result Q
on_ok P Q (Ok a) widen h = widen h
on_ok P Q (Err e) widen h = tt

pub on_both : {A E : Type 0} (P Q R : Type 0) (result : Result A E) → (P → Q → R) → OnOk result P → OnOk result Q → OnOk result R
on_both P Q R (Ok a) join h k = join h k
on_both P Q R (Err e) join h k = tt

pub ok_with : {A E : Type 0} (P : Type 0) (Q R : A → Type 0) (result : Result A E) → (P → (a : A) → Q a → R a) → OnOk result P → IfOk result Q
    → IfOk result R
ok_with P Q R (Ok a) join h k = join h a k
ok_with P Q R (Err e) join h k = tt

pub ok_both : {A E : Type 0} (P Q R : A → Type 0) (result : Result A E) → ((a : A) → P a → Q a → R a) → IfOk result P → IfOk result Q → IfOk result R
ok_both P Q R (Ok a) join h k = join a h k
ok_both P Q R (Err e) join h k = tt

pub if_refused : {A E : Type 0} (P Q : E → Type 0) (result : Result A (Fail E)) → ((fault : E) → P fault → Q fault) → IfErr result (IfRefused P)
    → IfErr result (IfRefused Q)
if_refused P Q (Err (Refused fault)) widen h = widen fault h
if_refused P Q _ widen h = tt
