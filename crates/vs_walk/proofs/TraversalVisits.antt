-- Parts of the traversal, one after another.
use Rattle.std.proofs.Common.{◌≡◌, ℕ, ◌↔◌, Bool, true, false, not, List, [], ◌∷◌, ◌++◌, Option, Some, None, nat_eq, refl, sym, ap, subst, ◌∙◌, ⊎_elim, IsTrue}
use Rattle.std.proofs.Common.{Contains}
use Rattle.std.specs.FinMap as finite
use Rattle.std.specs.List.{list_any}
use Rattle.std.proofs.lemmas.Bool.{cases_Bool, false≢true}
use Rattle.std.specs.Cmp.{nat_eq_equiv}
use Rattle.std.proofs.lemmas.List.{append_assoc, append-nil}
use Rattle.std.proofs.lemmas.List.Elements.{filter_map-append, Contains-append_left, Contains-append_right, Contains-append_cases}
use Rattle.std.proofs.lemmas.Map.Views.{Contains-from_any, list_any-from_Contains, exact_unsigned_eq}
use Rattle.vs_types.proofs.Lists.{Contains-head, Contains-tail, Contains-cases, not_in_nil}
use Rattle.vs_walk.specs.Memory.{Memory}
use Rattle.vs_walk.specs.Reached.{AreJust}
use Rattle.vs_walk.specs.Traversal.{VisitOf, OfFrame, OfLeaf, OfReservedBit, reached_by, found_by, reached, found, visit_fault, first_fault_after}
use Rattle.vs_walk.specs.inside.Traversed.{GoesOn, Stops, TakesFound}
use Rattle.vs_walk.specs.declared.walk.WalkFault.{WalkFault}
use Rattle.vs_walk.specs.declared.walk.WalkFault.TheVariants.{Missing, Shared, Reserved}

-- ---- the frames that are marked

pub reached_both : {P : Type 0} (ms ns : List (VisitOf P)) → reached (ms ++ ns) ≡ reached ms ++ reached ns
reached_both = filter_map-append reached_by

pub found_both : {P : Type 0} (ms ns : List (VisitOf P)) → found (ms ++ ns) ≡ found ms ++ found ns
found_both = filter_map-append found_by

just_both : (a b xs ys : List ℕ) → AreJust a b → AreJust xs ys → AreJust (a ++ xs) (b ++ ys)
just_both a b xs ys left right number = (
  λ h. ⊎_elim (λ l. Contains-append_left b ys number ((left number).0 l)) (λ r. Contains-append_right b ys number ((right number).0 r))
      (Contains-append_cases a xs number h),
  λ h. ⊎_elim (λ l. Contains-append_left a xs number ((left number).1 l)) (λ r. Contains-append_right a xs number ((right number).1 r))
      (Contains-append_cases b ys number h),
)

just_same : (a : List ℕ) → AreJust a a
just_same a number = (λ h. h, λ h. h)

just_then : (a b c : List ℕ) → AreJust a b → AreJust b c → AreJust a c
just_then a b c left right number = (λ h. (right number).0 ((left number).0 h), λ h. (left number).1 ((right number).1 h))

-- the frames that are marked after a part are those that are reached then
pub marked_then : {P : Type 0} (memory : Memory) (before after : List ℕ) (ms earlier : List (VisitOf P)) → GoesOn memory before after ms → AreJust before
    (reached earlier)
    → AreJust after (reached (earlier ++ ms))
marked_then memory before after ms earlier on just =
    subst (AreJust after) (sym (reached_both earlier ms))
    (just_then after (before ++ reached ms) (reached earlier ++ reached ms) on.marked
    (just_both before (reached earlier) (reached ms) (reached ms) just (just_same (reached ms))))

-- ---- parts one after another

pub faults_after : {P : Type 0} (memory : Memory) (earlier ms ns : List (VisitOf P)) → first_fault_after memory earlier ms ≡ None
    → first_fault_after memory earlier (ms ++ ns) ≡ first_fault_after memory (earlier ++ ms) ns
faults_after memory earlier [] ns none = ap (λ es. first_fault_after memory es ns) (sym (append-nil earlier))
faults_after memory earlier (visit ∷ ms) ns none = by_first (visit_fault memory earlier visit) refl none
    (faults_after memory (earlier ++ visit ∷ []) ms ns) where
      by_first : (here : Option WalkFault) → visit_fault memory earlier visit ≡ here → first_fault_after memory earlier (visit ∷ ms) ≡ None
          → (first_fault_after memory (earlier ++ visit ∷ []) ms ≡ None
          → first_fault_after memory (earlier ++ visit ∷ []) (ms ++ ns) ≡ first_fault_after memory ((earlier ++ visit ∷ []) ++ ms) ns)
          → first_fault_after memory earlier (visit ∷ ms ++ ns) ≡ first_fault_after memory (earlier ++ visit ∷ ms) ns
      by_first (Some fault) is none rest = let bad : Some fault ≡ None = rw is at none in cc
      by_first None is none rest = rw is (rest (rw is at none) ∙ ap (λ es. first_fault_after memory es ns) (append_assoc earlier (visit ∷ []) ms))

pub fault_stays : {P : Type 0} (memory : Memory) (earlier ms ns : List (VisitOf P)) (fault : WalkFault) → first_fault_after memory earlier ms ≡ Some fault
    → first_fault_after memory earlier (ms ++ ns) ≡ Some fault
fault_stays memory earlier [] ns fault some = cc
fault_stays memory earlier (visit ∷ ms) ns fault some = by_first (visit_fault memory earlier visit) refl some
    (fault_stays memory (earlier ++ visit ∷ []) ms ns fault) where
      by_first : (here : Option WalkFault) → visit_fault memory earlier visit ≡ here → first_fault_after memory earlier (visit ∷ ms) ≡ Some fault
          → (first_fault_after memory (earlier ++ visit ∷ []) ms ≡ Some fault → first_fault_after memory (earlier ++ visit ∷ []) (ms ++ ns) ≡ Some fault)
          → first_fault_after memory earlier (visit ∷ ms ++ ns) ≡ Some fault
      by_first (Some other) is some rest = rw is (rw is at some)
      by_first None is some rest = rw is (rest (rw is at some))

pub goes_on : {P : Type 0} (memory : Memory) (a b c : List ℕ) (ms ns : List (VisitOf P)) → GoesOn memory a b ms → GoesOn memory b c ns → GoesOn memory a c
    (ms ++ ns)
goes_on memory a b c ms ns left right = record {
  faultless = λ earlier just.
      faults_after memory earlier ms ns (left.faultless earlier just)
      ∙ right.faultless (earlier ++ ms) (marked_then memory a b ms earlier left just);
  marked = subst (AreJust c) (append_assoc a (reached ms) (reached ns) ∙ ap (λ ks. a ++ ks) (sym (reached_both ms ns)))
      (just_then c (b ++ reached ns) ((a ++ reached ms) ++ reached ns) right.marked
      (just_both b (a ++ reached ms) (reached ns) (reached ns) left.marked (just_same (reached ns))));
}

pub stops_later : {P : Type 0} (memory : Memory) (a b : List ℕ) (ms ns : List (VisitOf P)) (fault : WalkFault) → GoesOn memory a b ms → Stops memory b ns fault
    → Stops memory a (ms ++ ns) fault
stops_later memory a b ms ns fault left right = record {
  first = λ earlier just. faults_after memory earlier ms ns (left.faultless earlier just)
      ∙ right.first (earlier ++ ms) (marked_then memory a b ms earlier left just);
}

pub stops_before : {P : Type 0} (memory : Memory) (a : List ℕ) (ms ns : List (VisitOf P)) (fault : WalkFault) → Stops memory a ms fault → Stops memory a
    (ms ++ ns) fault
stops_before memory a ms ns fault stops = record { first = λ earlier just. fault_stays memory earlier ms ns fault (stops.first earlier just) }

pub takes_none : {P V : Type 0} (HasTaken : V → List P → Type 0) (v : V) (ms : List (VisitOf P)) → found ms ≡ [] → TakesFound (HasTaken v) (HasTaken v) ms
takes_none HasTaken v ms none pages h = subst (HasTaken v) (sym (ap (λ ps. pages ++ ps) none ∙ append-nil pages)) h

pub takes_both : {P V : Type 0} (HasTaken : V → List P → Type 0) (u v w : V) (ms ns : List (VisitOf P)) → TakesFound (HasTaken u) (HasTaken v) ms
    → TakesFound (HasTaken v) (HasTaken w) ns → TakesFound (HasTaken u) (HasTaken w) (ms ++ ns)
takes_both HasTaken u v w ms ns left right pages h =
    subst (HasTaken w) (append_assoc pages (found ms) (found ns) ∙ ap (λ ps. pages ++ ps) (sym (found_both ms ns))) (right (pages ++ found ms) (left pages h))

-- ---- single visits

pub none_on : {P : Type 0} (memory : Memory) (a : List ℕ) → GoesOn {P = P} memory a a []
none_on memory a = record { faultless = λ earlier just. refl; marked = subst (AreJust a) (sym (append-nil a)) (just_same a) }

pub finds_on : {P : Type 0} (memory : Memory) (a : List ℕ) (page : P) → GoesOn memory a a (OfLeaf page ∷ [])
finds_on memory a page = record { faultless = λ earlier just. refl; marked = subst (AreJust a) (sym (append-nil a)) (just_same a) }

pub meets_stops : {P : Type 0} (memory : Memory) (a : List ℕ) (number index : ℕ) → Stops {P = P} memory a (OfReservedBit number index ∷ [])
    (Reserved number index)
meets_stops memory a number index = record { first = λ earlier just. refl }

pub missing_stops : {P : Type 0} (memory : Memory) (a : List ℕ) (number : ℕ) → finite.get memory number ≡ None → Stops {P = P} memory a (OfFrame number ∷ [])
    (Missing number)
missing_stops memory a number none = record { first = λ earlier just. rw none refl }

in_list : (a : List ℕ) (number : ℕ) → Contains a number → list_any (nat_eq number) a ≡ true
in_list a number h = list_any-from_Contains nat_eq_equiv number a h

not_in_list : (a : List ℕ) (number : ℕ) → (Contains a number → ⊥) → list_any (nat_eq number) a ≡ false
not_in_list a number new = ⊎_elim (λ held. absurd (new (Contains-from_any exact_unsigned_eq number a held))) (λ is. is)
    (cases_Bool (list_any (nat_eq number) a))

pub shared_stops : {P : Type 0} (memory : Memory) (a : List ℕ) (number : ℕ) (words : List ℕ) → finite.get memory number ≡ Some words → Contains a number
    → Stops {P = P} memory a (OfFrame number ∷ []) (Shared number)
shared_stops memory a number words some held = record {
  first = λ earlier just. rw (some, in_list (reached earlier) number ((just number).0 held)) refl;
}

pub new_on : {P : Type 0} (memory : Memory) (a b : List ℕ) (new : Bool) (number : ℕ) (words : List ℕ) → finite.get memory number ≡ Some words
    → IsTrue (not new) ↔ Contains a number → new ≡ true → AreJust b (number ∷ a) → GoesOn {P = P} memory a b (OfFrame number ∷ [])
new_on memory a b new number words some tells is added = record {
  faultless = λ earlier just. rw (some, not_in_list (reached earlier) number (λ h. not_held ((just number).1 h))) refl;
  marked = just_then b (number ∷ a) (a ++ number ∷ []) added (λ other. (
    λ h. ⊎_elim (λ same. Contains-append_right a (number ∷ []) other (subst (Contains (number ∷ [])) same (Contains-head number [])))
        (Contains-append_left a (number ∷ []) other) (Contains-cases number a other h),
    λ h. ⊎_elim (Contains-tail number a other) (λ here. ⊎_elim (λ same. subst (Contains (number ∷ a)) same (Contains-head number a))
        (λ later. absurd (not_in_nil other later)) (Contains-cases number [] other here)) (Contains-append_cases a (number ∷ []) other h),
  ));
} where
  not_held : Contains a number → ⊥
  not_held h = let old = tells.1 h in let bad : false ≡ true = ap not (sym is) ∙ old in false≢true bad
