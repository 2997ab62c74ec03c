-- The first fault of some visits: what holds of visits without one, and what the fault says.
use Rattle.std.proofs.Common.{◌≡◌, ℕ, Bool, true, false, List, [], ◌∷◌, ◌++◌, Option, Some, None, nat_eq, refl, sym, ap, subst, ◌∙◌, IsTrue, Contains}
use Rattle.std.specs.Prelude.{All, ⊤}
use Rattle.std.specs.FinMap as finite
use Rattle.std.specs.List.{list_any, AllByRecursion, IsDistinct}
use Rattle.std.proofs.lemmas.Bool.{eq-eqb, ne_eqb, or_from, or_left, or_right}
use Rattle.std.proofs.lemmas.List.{append_assoc, append-nil}
use Rattle.std.proofs.lemmas.List.Folds.{list_any-append}
use Rattle.std.proofs.lemmas.List.Elements.{All-nil, All-cons, All-head, All-tail, filter_map-append}
use Rattle.vs_types.proofs.Lists.{Contains-head, Contains-tail}
use Rattle.vs_types.specs.declared.addresses.page.Page.{Page}
use Rattle.vs_walk.specs.Memory.{Memory}
use Rattle.vs_walk.specs.Traversal.{Visit, OfFrame, OfLeaf, OfReservedBit, reached_by, reached, visit_fault, first_fault_after}
use Rattle.vs_walk.specs.declared.walk.WalkFault.{WalkFault}
use Rattle.vs_walk.specs.declared.walk.WalkFault.TheVariants.{Missing, Shared, Reserved}

-- ---- no fault

-- what a visit is that nothing is wrong with, wherever it is
abbrev pub IsFine : Memory → Visit → Type 0
IsFine memory (OfFrame number) = IsTrue (finite.contains_key memory number)
IsFine memory (OfLeaf page) = ⊤
IsFine memory (OfReservedBit number index) = ⊥

-- where there is no fault after a frame is reached: the frame is there, is new, and the rest has no fault
record ReachedWell (memory : Memory) (earlier : List Visit) (number : ℕ) (later : List Visit) : Type 0 where
  there : finite.contains_key memory number ≡ true
  new : list_any (nat_eq number) (reached earlier) ≡ false
  rest : first_fault_after memory (earlier ++ OfFrame number ∷ []) later ≡ None

reached_well : (memory : Memory) (earlier : List Visit) (number : ℕ) (later : List Visit) → first_fault_after memory earlier (OfFrame number ∷ later) ≡ None
    → ReachedWell memory earlier number later
reached_well memory earlier number later none =
    by_there (finite.contains_key memory number) (list_any (nat_eq number) (reached earlier)) refl refl none where
      by_there : (there old : Bool) → finite.contains_key memory number ≡ there → list_any (nat_eq number) (reached earlier) ≡ old
          → first_fault_after memory earlier (OfFrame number ∷ later) ≡ None → ReachedWell memory earlier number later
      by_there false old is known none = let bad : Some (Missing number) ≡ None = rw is at none in cc
      by_there true true is known none = let bad : Some (Shared number) ≡ None = rw (is, known) at none in cc
      by_there true false is known none = record { there = is; new = known; rest = rw (is, known) at none }

pub all_fine : (memory : Memory) (earlier later : List Visit) → first_fault_after memory earlier later ≡ None → All (IsFine memory) later
all_fine memory earlier [] none = All-nil (IsFine memory)
all_fine memory earlier (OfFrame number ∷ later) none =
    let well = reached_well memory earlier number later none in
    All-cons (IsFine memory) (OfFrame number) later well.there (all_fine memory (earlier ++ OfFrame number ∷ []) later well.rest)
all_fine memory earlier (OfLeaf page ∷ later) none =
    All-cons (IsFine memory) (OfLeaf page) later tt (all_fine memory (earlier ++ OfLeaf page ∷ []) later none)
all_fine memory earlier (OfReservedBit number index ∷ later) none = cc

pub reached_there : (memory : Memory) (ms : List Visit) → All (IsFine memory) ms → All (λ number. IsTrue (finite.contains_key memory number)) (reached ms)
reached_there memory [] all = All-nil _
reached_there memory (OfFrame number ∷ ms) all = All-cons (λ n. IsTrue (finite.contains_key memory n)) number (reached ms)
    (All-head (IsFine memory) (OfFrame number) ms all) (reached_there memory ms (All-tail (IsFine memory) (OfFrame number) ms all))
reached_there memory (OfLeaf page ∷ ms) all = reached_there memory ms (All-tail (IsFine memory) (OfLeaf page) ms all)
reached_there memory (OfReservedBit number index ∷ ms) all = absurd (All-head (IsFine memory) (OfReservedBit number index) ms all)

-- a frame that was reached stays so
still_old : (number : ℕ) (earlier more : List Visit) → list_any (nat_eq number) (reached earlier) ≡ true
    → list_any (nat_eq number) (reached (earlier ++ more)) ≡ true
still_old number earlier more old =
    ap (list_any (nat_eq number)) (filter_map-append reached_by earlier more)
    ∙ list_any-append (nat_eq number) (reached earlier) (reached more)
    ∙ or_left _ _ old

-- and is not reached again
not_again : (memory : Memory) (number : ℕ) (earlier later : List Visit) → list_any (nat_eq number) (reached earlier) ≡ true
    → first_fault_after memory earlier later ≡ None → AllByRecursion (λ other. nat_eq number other ≡ false) (reached later)
not_again memory number earlier [] old none = tt
not_again memory number earlier (OfFrame next ∷ later) old none =
    let well = reached_well memory earlier next later none in (
      ne_eqb number next (λ same. let known = subst (λ n. list_any (nat_eq n) (reached earlier) ≡ true) same old in let new = well.new in cc),
      not_again memory number (earlier ++ OfFrame next ∷ []) later (still_old number earlier (OfFrame next ∷ []) old) well.rest,
    )
not_again memory number earlier (OfLeaf page ∷ later) old none =
    not_again memory number (earlier ++ OfLeaf page ∷ []) later (still_old number earlier (OfLeaf page ∷ []) old) none
not_again memory number earlier (OfReservedBit frame index ∷ later) old none = cc

now_old : (number : ℕ) (earlier : List Visit) → list_any (nat_eq number) (reached (earlier ++ OfFrame number ∷ [])) ≡ true
now_old number earlier =
    ap (list_any (nat_eq number)) (filter_map-append reached_by earlier (OfFrame number ∷ []))
    ∙ list_any-append (nat_eq number) (reached earlier) (number ∷ [])
    ∙ or_right _ _ (or_left _ _ (eq-eqb number number refl))

pub all_distinct : (memory : Memory) (earlier later : List Visit) → first_fault_after memory earlier later ≡ None → IsDistinct nat_eq (reached later)
unfolding IsDistinct
all_distinct memory earlier [] none = tt
all_distinct memory earlier (OfFrame number ∷ later) none =
    let well = reached_well memory earlier number later none in (
      not_again memory number (earlier ++ OfFrame number ∷ []) later (now_old number earlier) well.rest,
      all_distinct memory (earlier ++ OfFrame number ∷ []) later well.rest,
    )
all_distinct memory earlier (OfLeaf page ∷ later) none = all_distinct memory (earlier ++ OfLeaf page ∷ []) later none
all_distinct memory earlier (OfReservedBit frame index ∷ later) none = cc

-- ---- the first fault

-- the visit that the fault is of, and those before it
pub record FaultAt (memory : Memory) (earlier ms : List Visit) (fault : WalkFault) : Type 0 where
  pub before : List Visit
  pub after : List Visit
  pub visit : Visit
  pub is : ms ≡ before ++ visit ∷ after
  pub wrong : visit_fault memory (earlier ++ before) visit ≡ Some fault
  pub first : first_fault_after memory earlier before ≡ None

pub fault_at : (memory : Memory) (earlier ms : List Visit) (fault : WalkFault) → first_fault_after memory earlier ms ≡ Some fault
    → FaultAt memory earlier ms fault
fault_at memory earlier [] fault some = cc
fault_at memory earlier (visit ∷ ms) fault some = by_first (visit_fault memory earlier visit) refl some (fault_at memory (earlier ++ visit ∷ []) ms fault) where
  by_first : (here : Option WalkFault) → visit_fault memory earlier visit ≡ here → first_fault_after memory earlier (visit ∷ ms) ≡ Some fault
      → (first_fault_after memory (earlier ++ visit ∷ []) ms ≡ Some fault → FaultAt memory (earlier ++ visit ∷ []) ms fault)
      → FaultAt memory earlier (visit ∷ ms) fault
  by_first (Some other) is some rest = record {
    before = [];
    after = ms;
    visit = visit;
    is = refl;
    wrong = ap (λ es. visit_fault memory es visit) (append-nil earlier) ∙ is ∙ (rw is at some);
    first = refl;
  }
  by_first None is some rest =
      let later = rest (rw is at some) in
      record {
        before = visit ∷ later.before;
        after = later.after;
        visit = later.visit;
        is = ap (λ xs. visit ∷ xs) later.is;
        wrong = ap (λ es. visit_fault memory es later.visit) (sym (append_assoc earlier (visit ∷ []) later.before)) ∙ later.wrong;
        first = rw is later.first;
      }

-- what each fault is of
abbrev pub SaysFault : Memory → List Visit → Visit → WalkFault → Type 0
SaysFault memory earlier visit (Missing number) = (visit ≡ OfFrame number) × (finite.contains_key memory number ≡ false)
SaysFault memory earlier visit (Shared number) = (visit ≡ OfFrame number) × (finite.contains_key memory number ≡ true)
    × (list_any (nat_eq number) (reached earlier) ≡ true)
SaysFault memory earlier visit (Reserved number index) = visit ≡ OfReservedBit number index

pub fault_says : (memory : Memory) (earlier : List Visit) (visit : Visit) (fault : WalkFault) → visit_fault memory earlier visit ≡ Some fault
    → SaysFault memory earlier visit fault
fault_says memory earlier (OfFrame number) fault some = by_there (finite.contains_key memory number)
    (list_any (nat_eq number) (reached earlier)) refl refl some where
      by_there : (there old : Bool) → finite.contains_key memory number ≡ there → list_any (nat_eq number) (reached earlier) ≡ old
          → visit_fault memory earlier (OfFrame number) ≡ Some fault → SaysFault memory earlier (OfFrame number) fault
      by_there false old is known some = let same : Missing number ≡ fault = let e : Some (Missing number) ≡ Some fault = rw is at some in cc in
          subst (SaysFault memory earlier (OfFrame number)) same (refl, is)
      by_there true true is known some = let same : Shared number ≡ fault = let e : Some (Shared number) ≡ Some fault = rw (is, known) at some in cc in
          subst (SaysFault memory earlier (OfFrame number)) same (refl, is, known)
      by_there true false is known some = let e : None ≡ Some fault = rw (is, known) at some in cc
fault_says memory earlier (OfLeaf page) fault some = cc
fault_says memory earlier (OfReservedBit number index) fault some = let same : Reserved number index ≡ fault = cc in
    subst (SaysFault memory earlier (OfReservedBit number index)) same refl

-- ---- from no fault of each visit to none of all

pub fine_from : (memory : Memory) (ms : List Visit) → All (λ number. IsTrue (finite.contains_key memory number)) (reached ms)
    → ((number index : ℕ) → Contains ms (OfReservedBit number index) → ⊥) → All (IsFine memory) ms
fine_from memory [] there none = All-nil (IsFine memory)
fine_from memory (OfFrame number ∷ ms) there none =
    All-cons (IsFine memory) (OfFrame number) ms (All-head (λ n. IsTrue (finite.contains_key memory n)) number (reached ms) there)
    (fine_from memory ms (All-tail (λ n. IsTrue (finite.contains_key memory n)) number (reached ms) there)
    (λ frame index met. none frame index (Contains-tail (OfFrame number) ms (OfReservedBit frame index) met)))
fine_from memory (OfLeaf page ∷ ms) there none =
    All-cons (IsFine memory) (OfLeaf page) ms tt (fine_from memory ms there
    (λ frame index met. none frame index (Contains-tail (OfLeaf page) ms (OfReservedBit frame index) met)))
fine_from memory (OfReservedBit number index ∷ ms) there none = absurd (none number index (Contains-head (OfReservedBit number index) ms))

-- a frame is new after some visits
abbrev IsNewTo : List Visit → List ℕ → Type 0
IsNewTo earlier numbers = AllByRecursion (λ number. list_any (nat_eq number) (reached earlier) ≡ false) numbers

still_new : (earlier : List Visit) (number : ℕ) (numbers : List ℕ) → IsNewTo earlier numbers → AllByRecursion (λ other. nat_eq number other ≡ false) numbers
    → IsNewTo (earlier ++ OfFrame number ∷ []) numbers
still_new earlier number [] new apart = tt
still_new earlier number (other ∷ numbers) new apart = (
  ap (list_any (nat_eq other)) (filter_map-append reached_by earlier (OfFrame number ∷ []))
      ∙ list_any-append (nat_eq other) (reached earlier) (number ∷ [])
      ∙ or_from _ _ new.0 (or_from _ _ (ne_eqb other number (λ same. let equal = eq-eqb number other (sym same) in let differs = apart.0 in cc)) refl),
  still_new earlier number numbers new.1 apart.1,
)

new_after : (earlier : List Visit) (visit : Visit) (numbers : List ℕ) → reached (visit ∷ []) ≡ [] → IsNewTo earlier numbers
    → IsNewTo (earlier ++ visit ∷ []) numbers
new_after earlier visit numbers none new =
    subst (λ ks. AllByRecursion (λ number. list_any (nat_eq number) ks ≡ false) numbers)
    (sym (filter_map-append reached_by earlier (visit ∷ []) ∙ ap (λ ks. reached earlier ++ ks) none ∙ append-nil (reached earlier))) new

pub faultless_from : (memory : Memory) (earlier later : List Visit) → All (IsFine memory) later → IsDistinct nat_eq (reached later)
    → AllByRecursion (λ number. list_any (nat_eq number) (reached earlier) ≡ false) (reached later) → first_fault_after memory earlier later ≡ None
unfolding IsDistinct
faultless_from memory earlier [] fine apart new = refl
faultless_from memory earlier (OfFrame number ∷ later) fine apart new =
    rw (All-head (IsFine memory) (OfFrame number) later fine, new.0)
    (faultless_from memory (earlier ++ OfFrame number ∷ []) later (All-tail (IsFine memory) (OfFrame number) later fine) apart.1
    (still_new earlier number (reached later) new.1 apart.0))
faultless_from memory earlier (OfLeaf page ∷ later) fine apart new =
    faultless_from memory (earlier ++ OfLeaf page ∷ []) later (All-tail (IsFine memory) (OfLeaf page) later fine) apart
    (new_after earlier (OfLeaf page) (reached later) refl new)
faultless_from memory earlier (OfReservedBit number index ∷ later) fine apart new = absurd (All-head (IsFine memory) (OfReservedBit number index) later fine)

pub all_new : (numbers : List ℕ) → AllByRecursion (λ number. list_any (nat_eq number) (reached {P = Page} []) ≡ false) numbers
all_new [] = tt
all_new (number ∷ numbers) = (refl, all_new numbers)
