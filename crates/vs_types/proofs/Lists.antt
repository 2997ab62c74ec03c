-- What a list contains, what a look-up in it finds, and its elements by their index.
use Rattle.std.proofs.Common.{◌≡◌, ℕ, zero, suc, Bool, true, false, cond, List, [], ◌∷◌, map, Some, None, Contains, ◌⊎◌, inl, inr, ⊎_elim, refl, sym, ap, subst}
use Rattle.std.proofs.Common.{arith, find, ◌≤◌, ◌<◌, ◌+◌, ◌||◌, ◌++◌, length, slice_get, nat_eq, filter, ◌∙◌, eqb-true}
use Rattle.std.proofs.lemmas.Bool.{or_parts}
use Rattle.std.proofs.lemmas.Bool.Decides.{Decides-eqb}
use Rattle.std.proofs.lemmas.Cmp.{nat_eq_equiv}
use Rattle.std.proofs.lemmas.Map.Made.{length-le_from_is_member, is_member-Decides}
use Rattle.std.specs.List.{AllByRecursion, IsDistinct}
use Rattle.std.specs.Set.{is_member, unique_keys, distinct_count}
use Rattle.std.proofs.lemmas.List.Elements.{Contains-append_right}

pub Contains-head : {X : Type 0} (x : X) (xs : List X) → Contains (x ∷ xs) x
Contains-head x xs = (0, omega arith, refl)

pub Contains-tail : {X : Type 0} (y : X) (xs : List X) (x : X) → Contains xs x → Contains (y ∷ xs) x
Contains-tail y xs x h = Contains-append_right (y ∷ []) xs x h

-- what a list contains is its first element, or is in the rest
pub Contains-cases : {X : Type 0} (y : X) (xs : List X) (x : X) → Contains (y ∷ xs) x → (y ≡ x) ⊎ Contains xs x
Contains-cases y xs x (zero, within, is) = inl is
Contains-cases y xs x (suc k, within, is) = inr (k, omega arith, is)

pub not_in_nil : {X : Type 0} (x : X) → Contains [] x → ⊥
not_in_nil x (k, within, is) = omega arith

-- what a look-up finds is in the list and passes
pub find_found : {X : Type 0} (test : X → Bool) (xs : List X) (x : X) → find test xs ≡ Some x → Contains xs x × (test x ≡ true)
find_found test [] x e = cc
find_found test (y ∷ ys) x e =
    elim (test y) as (λ b. test y ≡ b → cond b (Some y) (find test ys) ≡ Some x → Contains (y ∷ ys) x × (test x ≡ true)) [
      | true ↦ λ t is. let same : y ≡ x = cc in (subst (Contains (y ∷ ys)) same (Contains-head y ys), subst (λ z. test z ≡ true) same t)
      | false ↦ λ t is. let later = find_found test ys x is in (Contains-tail y ys x later.0, later.1)
    ] refl e

-- where a look-up finds nothing, no element passes
pub find_nothing : {X : Type 0} (test : X → Bool) (xs : List X) (x : X) → find test xs ≡ None → Contains xs x → test x ≡ false
find_nothing test [] x e h = absurd (not_in_nil x h)
find_nothing test (y ∷ ys) x e h =
    elim (test y) as (λ b. test y ≡ b → cond b (Some y) (find test ys) ≡ None → test x ≡ false) [
      | true ↦ λ t is. cc
      | false ↦ λ t is. ⊎_elim (λ same. subst (λ z. test z ≡ false) same t) (λ later. find_nothing test ys x is later) (Contains-cases y ys x h)
    ] refl e

-- ---- what a filter keeps, under a map

pub kept_from : {X Y : Type 0} (f : X → Y) (test : X → Bool) (xs : List X) (y : Y) → Contains (map f (filter test xs)) y
    → (x : X) × Contains xs x × (test x ≡ true) × (f x ≡ y)
kept_from f test [] y h = absurd (not_in_nil y h)
kept_from {X} {Y} f test (x ∷ xs) y h =
    elim (test x) as (λ b. test x ≡ b → Contains (map f (cond b (x ∷ filter test xs) (filter test xs))) y
    → (z : X) × Contains (x ∷ xs) z × (test z ≡ true) × (f z ≡ y)) [
      | true ↦ λ t k. ⊎_elim
          (λ same. (x, Contains-head x xs, t, same))
          (λ later. let rest = kept_from f test xs y later in (rest.0, Contains-tail x xs rest.0 rest.1, rest.2, rest.3))
          (Contains-cases (f x) (map f (filter test xs)) y k)
      | false ↦ λ t k. let rest = kept_from f test xs y k in (rest.0, Contains-tail x xs rest.0 rest.1, rest.2, rest.3)
    ] refl h

pub kept_to : {X Y : Type 0} (f : X → Y) (test : X → Bool) (xs : List X) (x : X) → Contains xs x → test x ≡ true → Contains (map f (filter test xs)) (f x)
kept_to f test [] x h passes = absurd (not_in_nil x h)
kept_to f test (y ∷ ys) x h passes =
    elim (test y) as (λ b. test y ≡ b → Contains (map f (cond b (y ∷ filter test ys) (filter test ys))) (f x)) [
      | true ↦ λ t. ⊎_elim
          (λ same. subst (λ z. Contains (f y ∷ map f (filter test ys)) (f z)) same (Contains-head (f y) (map f (filter test ys))))
          (λ later. Contains-tail (f y) (map f (filter test ys)) (f x) (kept_to f test ys x later passes))
          (Contains-cases y ys x h)
      | false ↦ λ t. ⊎_elim
          (λ same. let fails = subst (λ z. test z ≡ false) same t in cc)
          (λ later. kept_to f test ys x later passes)
          (Contains-cases y ys x h)
    ] refl

-- ---- how many different numbers a list has

-- a list and its different numbers have the same members
pub unique_has : (xs : List ℕ) (q : ℕ) → is_member nat_eq (unique_keys nat_eq xs) q ≡ is_member nat_eq xs q
unique_has [] q = refl
unique_has (x ∷ xs) q =
    let rest = unique_has xs q in
    elim (is_member nat_eq xs x) as (λ b. is_member nat_eq xs x ≡ b
    → is_member nat_eq (cond b (unique_keys nat_eq xs) (x ∷ unique_keys nat_eq xs)) q ≡ (nat_eq q x || is_member nat_eq xs q)) [
      | true ↦ λ m. elim (nat_eq q x) as (λ c. nat_eq q x ≡ c → is_member nat_eq (unique_keys nat_eq xs) q ≡ (c || is_member nat_eq xs q)) [
        | true ↦ λ t. rest ∙ (ap (is_member nat_eq xs) (eqb-true q x t) ∙ m)
        | false ↦ λ t. rest
      ] refl
      | false ↦ λ m. ap (λ v. nat_eq q x || v) rest
    ] refl

apart_from_absent : (x : ℕ) (ys : List ℕ) → is_member nat_eq ys x ≡ false → AllByRecursion (λ y. nat_eq x y ≡ false) ys
apart_from_absent x [] h = tt
apart_from_absent x (y ∷ ys) h = let parts = or_parts (nat_eq x y) (is_member nat_eq ys x) h in (parts.0, apart_from_absent x ys parts.1)

-- the different numbers of a list differ from one another
pub unique_distinct : (xs : List ℕ) → IsDistinct nat_eq (unique_keys nat_eq xs)
unfolding IsDistinct
unique_distinct [] = tt
unique_distinct (x ∷ xs) =
    elim (is_member nat_eq xs x) as (λ b. is_member nat_eq xs x ≡ b → IsDistinct nat_eq (cond b (unique_keys nat_eq xs) (x ∷ unique_keys nat_eq xs))) [
      | true ↦ λ m. unique_distinct xs
      | false ↦ λ m. (apart_from_absent x (unique_keys nat_eq xs) (unique_has xs x ∙ m), unique_distinct xs)
    ] refl

-- a list with no number that the other lacks has no more different ones
pub distinct_count_within : (xs ys : List ℕ) → ((q : ℕ) → Contains xs q → Contains ys q) → distinct_count nat_eq xs ≤ distinct_count nat_eq ys
distinct_count_within xs ys within = length-le_from_is_member nat_eq_equiv (unique_keys nat_eq xs) (unique_keys nat_eq ys) (unique_distinct xs) (λ q m.
    unique_has ys q ∙ (is_member-Decides Decides-eqb ys q).1 (within q ((is_member-Decides Decides-eqb xs q).0 (sym (unique_has xs q) ∙ m))))

-- ---- elements by their index

-- below its length a list has an element
pub item_of : {X : Type 0} (xs : List X) (k : ℕ) → k < length xs → (x : X) × (slice_get xs k ≡ Some x)
item_of [] k lt = absurd (omega arith)
item_of (x ∷ xs) zero lt = (x, refl)
item_of (x ∷ xs) (suc k) lt = item_of xs k (omega arith)

pub get_left : {X : Type 0} (xs ys : List X) (k : ℕ) → k < length xs → slice_get (xs ++ ys) k ≡ slice_get xs k
get_left [] ys k lt = absurd (omega arith)
get_left (x ∷ xs) ys zero lt = refl
get_left (x ∷ xs) ys (suc k) lt = get_left xs ys k (omega arith)

pub get_right : {X : Type 0} (xs ys : List X) (k : ℕ) → slice_get (xs ++ ys) (length xs + k) ≡ slice_get ys k
get_right [] ys k =
    let same : 0 + k ≡ k = omega arith in
    ap (slice_get ys) same
get_right (x ∷ xs) ys k =
    let next : suc (length xs) + k ≡ suc (length xs + k) = omega arith in
    ap (slice_get ((x ∷ xs) ++ ys)) next ∙ get_right xs ys k
