-- Lists of numbers: what is in one, that it is distinct, and what comes before a member.
use Rattle.std.proofs.Common.{◌≡◌, ℕ, zero, suc, ◌<◌, ◌⊎◌, inl, inr, Bool, true, false, cond, nat_eq, List, [], ◌∷◌, ◌++◌, length, take, slice_get}
use Rattle.std.proofs.Common.{slice_index_or, filter, Contains, Option, Some, None, option_to_list, option_and_then, refl, ap, sym, ◌∙◌, subst, arith, one-add}
use Rattle.std.proofs.Common.{All, map, set, eq-eqb, ne_eqb}
use Rattle.std.specs.Prelude.{flat_map, filter_map}
use Rattle.std.specs.List.{AllByRecursion, IsDistinct, cons_option}
use Rattle.std.proofs.lemmas.Bool.{eqb-false, cases_eq}
use Rattle.std.proofs.lemmas.List.{append_assoc, append-nil, get_or-map, length-map}
use Rattle.std.proofs.lemmas.List.Concat.{flat_map-append}
use Rattle.std.proofs.lemmas.Option.{same_Some, none-some}
use Rattle.nr_trace.specs.Orders.{below, before}

-- ---- an element of a list more, or another in its place

pub slice_get-set_same : {X : Type 0} (xs : List X) (i : ℕ) (x : X) → i < length xs → slice_get (set xs i x) i ≡ Some x
slice_get-set_same [] i x within = absurd (omega arith)
slice_get-set_same (y ∷ ys) zero x within = refl
slice_get-set_same (y ∷ ys) (suc i) x within = slice_get-set_same ys i x (omega arith)

pub slice_get-set_other : {X : Type 0} (xs : List X) (i j : ℕ) (x : X) → (j ≡ i → ⊥) → slice_get (set xs i x) j ≡ slice_get xs j
slice_get-set_other [] i j x out = refl
slice_get-set_other (y ∷ ys) zero zero x out = absurd (out refl)
slice_get-set_other (y ∷ ys) zero (suc j) x out = refl
slice_get-set_other (y ∷ ys) (suc i) zero x out = refl
slice_get-set_other (y ∷ ys) (suc i) (suc j) x out = slice_get-set_other ys i j x (λ q. out (ap suc q))

-- an image at an index is that of the element there
pub slice_get-unmap : {X Y : Type 0} (f : X → Y) (xs : List X) (i : ℕ) (y : Y) → slice_get (map f xs) i ≡ Some y
    → (x : X) × (slice_get xs i ≡ Some x) × (f x ≡ y)
slice_get-unmap f [] i y e = absurd (none-some y e)
slice_get-unmap f (x ∷ xs) zero y e = (x, refl, same_Some (f x) y e)
slice_get-unmap f (x ∷ xs) (suc i) y e = slice_get-unmap f xs i y e

-- what holds of each image holds of each element
pub All-unmap : {A B : Type 0} (P : B → Type 0) (f : A → B) (xs : List A) → All P (map f xs) → All (λ x. P (f x)) xs
All-unmap P f xs all k d within = subst P (get_or-map f xs k d (f d) within) (all k (f d) (subst (λ n. k < n) (sym (length-map xs f)) within))

-- ---- elements

-- x is an element of the list, by recursion on it
abbrev pub In : {X : Type 0} → X → List X → Type 0
In x [] = ⊥
In x (y ∷ ys) = (y ≡ x) ⊎ In x ys

pub Contains-from_in : {X : Type 0} (x : X) (xs : List X) → In x xs → Contains xs x
Contains-from_in x [] h = absurd h
Contains-from_in x (y ∷ ys) (inl e) = (0, omega arith, e)
Contains-from_in x (y ∷ ys) (inr h) =
    let (k, l, e) = Contains-from_in x ys h in
    (suc k, omega arith, e)

in_at : {X : Type 0} (x : X) (xs : List X) (k : ℕ) → k < length xs → slice_index_or xs k x ≡ x → In x xs
in_at x [] k l e = absurd (omega arith)
in_at x (y ∷ ys) zero l e = inl e
in_at x (y ∷ ys) (suc k) l e = inr (in_at x ys k (omega arith) e)

pub in_from_Contains : {X : Type 0} (x : X) (xs : List X) → Contains xs x → In x xs
in_from_Contains x xs h = in_at x xs h.0 h.1 h.2

pub in_left : {X : Type 0} (x : X) (xs ys : List X) → In x xs → In x (xs ++ ys)
in_left x [] ys h = absurd h
in_left x (y ∷ xs) ys (inl e) = inl e
in_left x (y ∷ xs) ys (inr h) = inr (in_left x xs ys h)

pub in_right : {X : Type 0} (x : X) (xs ys : List X) → In x ys → In x (xs ++ ys)
in_right x [] ys h = h
in_right x (y ∷ xs) ys h = inr (in_right x xs ys h)

pub in_either : {X : Type 0} (x : X) (xs ys : List X) → In x (xs ++ ys) → In x xs ⊎ In x ys
in_either x [] ys h = inr h
in_either x (y ∷ xs) ys (inl e) = inl (inl e)
in_either x (y ∷ xs) ys (inr h) = in_rest (in_either x xs ys h) where
  in_rest : In x xs ⊎ In x ys → In x (y ∷ xs) ⊎ In x ys
  in_rest (inl k) = inl (inr k)
  in_rest (inr k) = inr k

pub in_filter : {X : Type 0} (p : X → Bool) (x : X) (xs : List X) → In x (filter p xs) → In x xs × (p x ≡ true)
in_filter p x [] h = absurd h
in_filter {X} p x (y ∷ ys) h = by_test (λ k. in_filter p x ys k) (p y) refl h where
  by_test : (In x (filter p ys) → In x ys × (p x ≡ true)) → (b : Bool) → p y ≡ b → In x (cond b (y ∷ filter p ys) (filter p ys)) → In x (y ∷ ys) × (p x ≡ true)
  by_test more true e (inl k) = (inl k, subst (λ (z : X). p z ≡ true) k e)
  by_test more true e (inr k) = let r = more k in (inr r.0, r.1)
  by_test more false e k = let r = more k in (inr r.0, r.1)

pub in_filtered : {X : Type 0} (p : X → Bool) (x : X) (xs : List X) → In x xs → p x ≡ true → In x (filter p xs)
in_filtered p x [] h t = absurd h
in_filtered {X} p x (y ∷ ys) (inl e) t = rw (subst (λ (z : X). p z ≡ true) (sym e) t) (inl e)
in_filtered p x (y ∷ ys) (inr h) t = by_test (in_filtered p x ys h t) (p y) where
  by_test : In x (filter p ys) → (b : Bool) → In x (cond b (y ∷ filter p ys) (filter p ys))
  by_test more true = inr more
  by_test more false = more

pub in_map : {X Y : Type 0} (f : X → Y) (xs : List X) (y : Y) → In y (map f xs) → (x : X) × In x xs × (f x ≡ y)
in_map f [] y h = absurd h
in_map f (x ∷ xs) y (inl e) = (x, inl refl, e)
in_map f (x ∷ xs) y (inr h) = let (z, i, e) = in_map f xs y h in (z, inr i, e)

pub in_mapped : {X Y : Type 0} (f : X → Y) (xs : List X) (x : X) → In x xs → In (f x) (map f xs)
in_mapped f [] x i = i
in_mapped f (y ∷ ys) x (inl e) = inl (ap f e)
in_mapped f (y ∷ ys) x (inr i) = inr (in_mapped f ys x i)

pub in_flat_map : {X Y : Type 0} (f : X → List Y) (y : Y) (xs : List X) → In y (flat_map f xs) → (x : X) × In x xs × In y (f x)
in_flat_map f y [] h = absurd h
in_flat_map {X} f y (x ∷ xs) h = by_side (λ k. in_flat_map f y xs k) (in_either y (f x) (flat_map f xs) h) where
  by_side : (In y (flat_map f xs) → (z : X) × In z xs × In y (f z)) → In y (f x) ⊎ In y (flat_map f xs) → (z : X) × In z (x ∷ xs) × In y (f z)
  by_side more (inl k) = (x, inl refl, k)
  by_side more (inr k) = let (z, i, j) = more k in (z, inr i, j)

pub in_flat_mapped : {X Y : Type 0} (f : X → List Y) (y : Y) (x : X) (xs : List X) → In x xs → In y (f x) → In y (flat_map f xs)
in_flat_mapped f y x [] h k = absurd h
in_flat_mapped f y x (z ∷ xs) (inl e) k = in_left y (f z) (flat_map f xs) (rw e k)
in_flat_mapped f y x (z ∷ xs) (inr h) k = in_right y (f z) (flat_map f xs) (in_flat_mapped f y x xs h k)

pub in_below : (x n : ℕ) → In x (below n) → x < n
in_below x zero h = absurd h
in_below x (suc n) h = by_side (λ k. in_below x n k) (in_either x (below n) (n ∷ []) h) where
  by_side : (In x (below n) → x < n) → In x (below n) ⊎ In x (n ∷ []) → x < suc n
  by_side less (inl k) = let l = less k in omega arith
  by_side less (inr (inl e)) = omega arith
  by_side less (inr (inr k)) = absurd k

-- the numbers below a greater one begin with those below a smaller one
pub below_split : (c n : ℕ) → c < n → (rest : List ℕ) × (below n ≡ below c ++ c ∷ rest)
below_split c zero l = absurd (omega arith)
below_split c (suc n) l = by_order (λ k. below_split c n k) (cases_eq c n) where
  by_order : (c < n → (rest : List ℕ) × (below n ≡ below c ++ c ∷ rest)) → (c ≡ n) ⊎ (c ≡ n → ⊥) → (rest : List ℕ) × (below (suc n) ≡ below c ++ c ∷ rest)
  by_order more (inl e) = ([], rw e refl)
  by_order more (inr h) =
      let (rest, is) = more (omega arith) in
      (rest ++ n ∷ [], ap (λ ns. ns ++ n ∷ []) is ∙ append_assoc (below c) (c ∷ rest) (n ∷ []))

pub below_in : (x n : ℕ) → x < n → In x (below n)
below_in x n l = let (rest, is) = below_split x n l in rw is (in_right x (below x) (x ∷ rest) (inl refl))

-- ---- distinct numbers

abbrev Absent : ℕ → List ℕ → Type 0
Absent x xs = AllByRecursion (λ y. nat_eq x y ≡ false) xs

pub absent_from : (x : ℕ) (xs : List ℕ) → (In x xs → ⊥) → Absent x xs
absent_from x [] h = tt
absent_from x (y ∷ ys) h = (ne_eqb x y (λ e. h (inl (sym e))), absent_from x ys (λ i. h (inr i)))

pub absent_not_in : (x : ℕ) (xs : List ℕ) → Absent x xs → In x xs → ⊥
absent_not_in x [] h i = i
absent_not_in x (y ∷ ys) h (inl e) = eqb-false x y h.0 (sym e)
absent_not_in x (y ∷ ys) h (inr i) = absent_not_in x ys h.1 i

pub distinct_append : (xs ys : List ℕ) → IsDistinct nat_eq xs → IsDistinct nat_eq ys → ((x : ℕ) → In x xs → In x ys → ⊥) → IsDistinct nat_eq (xs ++ ys)
unfolding IsDistinct
distinct_append [] ys h k apart = k
distinct_append (x ∷ xs) ys h k apart =
    (absent_from x (xs ++ ys) (λ i. nowhere (in_either x xs ys i)), distinct_append xs ys h.1 k (λ y i j. apart y (inr i) j)) where
      nowhere : In x xs ⊎ In x ys → ⊥
      nowhere (inl i) = absent_not_in x xs h.0 i
      nowhere (inr i) = apart x (inl refl) i

pub distinct_filter : (p : ℕ → Bool) (xs : List ℕ) → IsDistinct nat_eq xs → IsDistinct nat_eq (filter p xs)
unfolding IsDistinct
distinct_filter p [] h = tt
distinct_filter p (x ∷ xs) h = by_test (distinct_filter p xs h.1) (p x) where
  by_test : IsDistinct nat_eq (filter p xs) → (b : Bool) → IsDistinct nat_eq (cond b (x ∷ filter p xs) (filter p xs))
  by_test more true = (absent_from x (filter p xs) (λ i. absent_not_in x xs h.0 (in_filter p x xs i).0), more)
  by_test more false = more

one_distinct : (x : ℕ) → IsDistinct nat_eq (x ∷ [])
unfolding IsDistinct
one_distinct x = (tt, tt)

none_distinct : IsDistinct nat_eq []
unfolding IsDistinct
none_distinct = tt

pub option_distinct : (o : Option ℕ) → IsDistinct nat_eq (option_to_list o)
option_distinct None = none_distinct
option_distinct (Some x) = one_distinct x

pub below_distinct : (n : ℕ) → IsDistinct nat_eq (below n)
below_distinct zero = none_distinct
below_distinct (suc n) = distinct_append (below n) (n ∷ []) (below_distinct n) (one_distinct n) apart where
  apart : (x : ℕ) → In x (below n) → In x (n ∷ []) → ⊥
  apart x i (inl e) = let l = in_below x n i in omega arith
  apart x i (inr k) = k

-- the pieces of one number more
pub flat_map_next : {Y : Type 0} (f : ℕ → List Y) (n : ℕ) → flat_map f (below (suc n)) ≡ flat_map f (below n) ++ f n
flat_map_next f n = flat_map-append f (below n) (n ∷ []) ∙ ap (λ ys. flat_map f (below n) ++ ys) (append-nil (f n))

pub flat_map_distinct : (f : ℕ → List ℕ) (n : ℕ) → ((k : ℕ) → k < n → IsDistinct nat_eq (f k)) → ((x j k : ℕ) → j < k → k < n → In x (f j) → In x (f k) → ⊥)
    → IsDistinct nat_eq (flat_map f (below n))
flat_map_distinct f zero each apart = none_distinct
flat_map_distinct f (suc n) each apart =
    rw (flat_map_next f n)
    (distinct_append (flat_map f (below n)) (f n) (flat_map_distinct f n (λ k l. each k (omega arith)) (λ x j k l m. apart x j k l (omega arith)))
    (each n (omega arith)) between) where
      between : (x : ℕ) → In x (flat_map f (below n)) → In x (f n) → ⊥
      between x i h = let (j, k, l) = in_flat_map f x (below n) i in apart x j n (in_below j n k) (omega arith) l h

-- ---- what comes before a member

pub before_here : (call x : ℕ) (xs : List ℕ) → x ≡ call → before call (x ∷ xs) ≡ []
before_here call x xs h =
    let e = eq-eqb x call h in
    rw e refl

pub before_there : (call x : ℕ) (xs : List ℕ) → (x ≡ call → ⊥) → before call (x ∷ xs) ≡ x ∷ before call xs
before_there call x xs h =
    let e = ne_eqb x call h in
    rw (e, one-add) refl

-- two members with as many before them are one
pub same_place : (i j : ℕ) (xs : List ℕ) → In i xs → In j xs → length (before i xs) ≡ length (before j xs) → i ≡ j
same_place i j [] a b e = absurd a
same_place i j (x ∷ xs) a b e = by_cases (λ c d f. same_place i j xs c d f) (cases_eq x i) (cases_eq x j) where
  further : (k : ℕ) → (x ≡ k → ⊥) → In k (x ∷ xs) → In k xs
  further k n (inl h) = absurd (n h)
  further k n (inr h) = h

  by_cases : (In i xs → In j xs → length (before i xs) ≡ length (before j xs) → i ≡ j) → (x ≡ i) ⊎ (x ≡ i → ⊥) → (x ≡ j) ⊎ (x ≡ j → ⊥) → i ≡ j
  by_cases more (inl h) (inl k) = sym h ∙ k
  by_cases more (inl h) (inr n) =
      let f = sym (ap length (before_here i x xs h)) ∙ e ∙ ap length (before_there j x xs n) in
      absurd (omega arith)
  by_cases more (inr n) (inl h) =
      let f = sym (ap length (before_there i x xs n)) ∙ e ∙ ap length (before_here j x xs h) in
      absurd (omega arith)
  by_cases more (inr n) (inr m) =
      let f = sym (ap length (before_there i x xs n)) ∙ e ∙ ap length (before_there j x xs m) in
      more (further i n a) (further j m b) (omega arith)

-- a member with fewer before it comes before the other, and the other way round
pub earlier_member : (i j : ℕ) (xs : List ℕ) → In i xs → In j xs → length (before i xs) < length (before j xs) → In i (before j xs)
earlier_member i j [] a b l = absurd a
earlier_member i j (x ∷ xs) a b l = by_cases (λ c d m. earlier_member i j xs c d m) (cases_eq x i) (cases_eq x j) where
  further : (k : ℕ) → (x ≡ k → ⊥) → In k (x ∷ xs) → In k xs
  further k n (inl h) = absurd (n h)
  further k n (inr h) = h

  by_cases : (In i xs → In j xs → length (before i xs) < length (before j xs) → In i (before j xs)) → (x ≡ i) ⊎ (x ≡ i → ⊥) → (x ≡ j) ⊎ (x ≡ j → ⊥)
      → In i (before j (x ∷ xs))
  by_cases more h (inl k) =
      let none = ap length (before_here j x xs k) in
      absurd (omega arith)
  by_cases more (inl h) (inr n) = subst (In i) (sym (before_there j x xs n)) (inl h)
  by_cases more (inr m) (inr n) =
      let f = ap length (before_there i x xs m) in
      let g = ap length (before_there j x xs n) in
      subst (In i) (sym (before_there j x xs n)) (inr (more (further i m a) (further j n b) (omega arith)))

pub member_before : (i j : ℕ) (xs : List ℕ) → In i (before j xs) → length (before i xs) < length (before j xs)
member_before i j [] a = absurd a
member_before i j (x ∷ xs) a = by_cases (λ c. member_before i j xs c) (cases_eq x i) (cases_eq x j) where
  further : (x ≡ i → ⊥) → In i (x ∷ before j xs) → In i (before j xs)
  further n (inl h) = absurd (n h)
  further n (inr h) = h

  by_cases : (In i (before j xs) → length (before i xs) < length (before j xs)) → (x ≡ i) ⊎ (x ≡ i → ⊥) → (x ≡ j) ⊎ (x ≡ j → ⊥)
      → length (before i (x ∷ xs)) < length (before j (x ∷ xs))
  by_cases more h (inl k) = absurd (subst (In i) (before_here j x xs k) a)
  by_cases more (inl h) (inr n) =
      let f = ap length (before_here i x xs h) in
      let g = ap length (before_there j x xs n) in
      omega arith
  by_cases more (inr m) (inr n) =
      let f = ap length (before_there i x xs m) in
      let g = ap length (before_there j x xs n) in
      let l = more (further m (subst (In i) (before_there j x xs n) a)) in
      omega arith

pub before_split : (call : ℕ) (xs ys : List ℕ) → (In call xs → ⊥) → before call (xs ++ call ∷ ys) ≡ xs
before_split call [] ys out =
    let e = eq-eqb call call refl in
    rw e refl
before_split call (x ∷ xs) ys out =
    let e = ne_eqb x call (λ h. out (inl h)) in
    rw (e, one-add) (ap (λ zs. x ∷ zs) (before_split call xs ys (λ i. out (inr i))))

-- ---- the first element that gives something

pub option_parts : {X : Type 0} (x : X) (o : Option X) → In x (option_to_list o) → o ≡ Some x
option_parts x None h = absurd h
option_parts x (Some y) (inl e) = ap Some e
option_parts x (Some y) (inr h) = absurd h

pub first_given : {X Y : Type 0} (h : X → Option Y) (xs : List X) (y : Y) → slice_get (filter_map h xs) 0 ≡ Some y
    → (i : ℕ) × (x : X) × (slice_get xs i ≡ Some x) × (h x ≡ Some y)
first_given h [] y e = absurd (none-some y e)
first_given {X} {Y} h (x ∷ xs) y e = by_first (λ f. first_given h xs y f) (h x) refl e where
  by_first : (slice_get (filter_map h xs) 0 ≡ Some y → (i : ℕ) × (z : X) × (slice_get xs i ≡ Some z) × (h z ≡ Some y)) → (o : Option Y) → h x ≡ o
      → slice_get (cons_option o (filter_map h xs)) 0 ≡ Some y → (i : ℕ) × (z : X) × (slice_get (x ∷ xs) i ≡ Some z) × (h z ≡ Some y)
  by_first more None k f = let (i, z, a, b) = more f in (suc i, z, a, b)
  by_first more (Some w) k f = (0, x, refl, k ∙ f)

pub given_first : {X Y : Type 0} (h : X → Option Y) (xs : List X) (y : Y) (i : ℕ) (x : X) → slice_get xs i ≡ Some x → h x ≡ Some y
    → ((j : ℕ) → j < i → option_and_then h (slice_get xs j) ≡ None) → slice_get (filter_map h xs) 0 ≡ Some y
given_first h [] y i x is gives none = absurd (none-some x is)
given_first h (z ∷ xs) y zero x is gives none =
    let e : h z ≡ Some y = ap h (same_Some z x is) ∙ gives in
    rw e refl
given_first h (z ∷ xs) y (suc i) x is gives none =
    let e : h z ≡ None = none 0 (omega arith) in
    rw e (given_first h xs y i x is gives (λ j l. none (suc j) (omega arith)))

-- one place more of a list
pub take-next : {X : Type 0} (n : ℕ) (xs : List X) → take (suc n) xs ≡ take n xs ++ option_to_list (slice_get xs n)
take-next zero [] = refl
take-next (suc n) (x ∷ xs) = ap (λ ys. x ∷ ys) (take-next n xs)
take-next _ _ = refl
