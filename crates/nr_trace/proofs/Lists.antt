-- Lists one behind the other, and numbers of calls behind so many events.
use Rattle.std.proofs.Common.{◌≡◌, ℕ, zero, suc, ◌+◌, ◌-◌, ◌<◌, ◌≤◌, ◌⊎◌, inl, inr, Bool, true, false, cond, nat_eq, List, [], ◌∷◌, ◌++◌, length, take, map}
use Rattle.std.proofs.Common.{slice_get, filter, Option, Some, None, is_some, IsSome, option_to_list, option_and_then, option_map, refl, ap, ap₂, sym, ◌∙◌}
use Rattle.std.proofs.Common.{subst}
use Rattle.std.proofs.Common.{arith}
use Rattle.std.specs.Prelude.{filter_map, flat_map}
use Rattle.std.specs.List.{IsDistinct, cons_option}
use Rattle.std.proofs.lemmas.Bool.{cases_eq, cases_lt}
use Rattle.std.proofs.lemmas.List.{append_assoc, append-nil, map-append}
use Rattle.std.proofs.lemmas.Option.{none-some, same_Some}
use Rattle.nr_trace.specs.Orders.{before, below}
use Rattle.nr_trace.proofs.LawsOfLists.{In, absent_from, absent_not_in, before_here, before_there, in_map}
use Rattle.nr_trace.specs.Joined.{calls_behind}

-- ---- what is in a list

pub not_in_behind : (n x : ℕ) (xs : List ℕ) → x < n → In x (calls_behind n xs) → ⊥
not_in_behind n x xs l i = let (y, j, e) = in_map (λ (y : ℕ). n + y) xs x i in omega arith

pub in_behind : (n x : ℕ) (xs : List ℕ) → In (n + x) (calls_behind n xs) → In x xs
in_behind n x xs i =
    let (y, j, e) = in_map (λ (y : ℕ). n + y) xs (n + x) i in
    let same : y ≡ x = omega arith in
    subst (λ (z : ℕ). In z xs) same j

pub behind_distinct : (n : ℕ) (xs : List ℕ) → IsDistinct nat_eq xs → IsDistinct nat_eq (calls_behind n xs)
unfolding IsDistinct
behind_distinct n [] h = tt
behind_distinct n (x ∷ xs) h = (absent_from (n + x) (calls_behind n xs) (λ i. absent_not_in x xs h.0 (in_behind n x xs i)), behind_distinct n xs h.1)

-- ---- what comes before a member

pub before_left : (x : ℕ) (xs ys : List ℕ) → In x xs → before x (xs ++ ys) ≡ before x xs
before_left x [] ys i = absurd i
before_left x (y ∷ xs) ys i = by_case (λ j. before_left x xs ys j) (cases_eq y x) i where
  by_case : (In x xs → before x (xs ++ ys) ≡ before x xs) → (y ≡ x) ⊎ (y ≡ x → ⊥) → In x (y ∷ xs) → before x (y ∷ (xs ++ ys)) ≡ before x (y ∷ xs)
  by_case more (inl e) i = before_here x y (xs ++ ys) e ∙ sym (before_here x y xs e)
  by_case more (inr n) (inl e) = absurd (n e)
  by_case more (inr n) (inr j) = before_there x y (xs ++ ys) n ∙ ap (λ zs. y ∷ zs) (more j) ∙ sym (before_there x y xs n)

pub before_right : (x : ℕ) (xs ys : List ℕ) → (In x xs → ⊥) → before x (xs ++ ys) ≡ xs ++ before x ys
before_right x [] ys out = refl
before_right x (y ∷ xs) ys out =
    before_there x y (xs ++ ys) (λ e. out (inl e)) ∙ ap (λ zs. y ∷ zs) (before_right x xs ys (λ i. out (inr i)))

pub before_behind : (n x : ℕ) (xs : List ℕ) → before (n + x) (calls_behind n xs) ≡ calls_behind n (before x xs)
before_behind n x [] = refl
before_behind n x (y ∷ xs) = by_case (before_behind n x xs) (cases_eq y x) where
  by_case : before (n + x) (calls_behind n xs) ≡ calls_behind n (before x xs) → (y ≡ x) ⊎ (y ≡ x → ⊥)
      → before (n + x) ((n + y) ∷ calls_behind n xs) ≡ calls_behind n (before x (y ∷ xs))
  by_case more (inl e) = before_here (n + x) (n + y) (calls_behind n xs) (ap (λ z. n + z) e) ∙ sym (ap (calls_behind n) (before_here x y xs e))
  by_case more (inr m) =
      before_there (n + x) (n + y) (calls_behind n xs) (λ e. m (omega arith)) ∙ ap (λ zs. (n + y) ∷ zs) more
      ∙ sym (ap (calls_behind n) (before_there x y xs m))

pub before_in : (x c : ℕ) (xs : List ℕ) → In x (before c xs) → In x xs
before_in x c [] i = i
before_in x c (y ∷ xs) i = by_case (λ j. before_in x c xs j) (cases_eq y c) where
  onto : (In x (before c xs) → In x xs) → In x (y ∷ before c xs) → In x (y ∷ xs)
  onto more (inl e) = inl e
  onto more (inr j) = inr (more j)

  by_case : (In x (before c xs) → In x xs) → (y ≡ c) ⊎ (y ≡ c → ⊥) → In x (y ∷ xs)
  by_case more (inl e) = absurd (subst (In x) (before_here c y xs e) i)
  by_case more (inr n) = onto more (subst (In x) (before_there c y xs n) i)

-- ---- filters

pub filter_same : {X : Type 0} (p q : X → Bool) (xs : List X) → ((x : X) → In x xs → p x ≡ q x) → filter p xs ≡ filter q xs
filter_same p q [] h = refl
filter_same p q (x ∷ xs) h = ap₂ (λ b ys. cond b (x ∷ ys) ys) (h x (inl refl)) (filter_same p q xs (λ y i. h y (inr i)))

pub filter-map : {X Y : Type 0} (p : Y → Bool) (f : X → Y) (xs : List X) → filter p (map f xs) ≡ map f (filter (λ x. p (f x)) xs)
filter-map p f [] = refl
filter-map {X} {Y} p f (x ∷ xs) = by_test (filter-map p f xs) (p (f x)) where
  by_test : filter p (map f xs) ≡ map f (filter (λ y. p (f y)) xs) → (b : Bool)
      → cond b (f x ∷ filter p (map f xs)) (filter p (map f xs)) ≡ map f (cond b (x ∷ filter (λ y. p (f y)) xs) (filter (λ y. p (f y)) xs))
  by_test more true = ap (λ ys. f x ∷ ys) more
  by_test more false = more

pub filter_map_same : {X Y : Type 0} (g h : X → Option Y) (xs : List X) → ((x : X) → In x xs → g x ≡ h x) → filter_map g xs ≡ filter_map h xs
filter_map_same g h [] same = refl
filter_map_same g h (x ∷ xs) same = ap₂ cons_option (same x (inl refl)) (filter_map_same g h xs (λ y i. same y (inr i)))

-- what is given of the mapped elements, where that is what is given of the elements, mapped
pub filter_map-map : {X Y Z W : Type 0} (g : Y → Option W) (f : X → Y) (h : X → Option Z) (k : Z → W) (xs : List X)
    → ((x : X) → g (f x) ≡ option_map k (h x)) → filter_map g (map f xs) ≡ map k (filter_map h xs)
filter_map-map g f h k [] same = refl
filter_map-map {X} {Y} {Z} {W} g f h k (x ∷ xs) same =
    ap (λ o. cons_option o (filter_map g (map f xs))) (same x) ∙ onto (h x) (filter_map-map g f h k xs same) where
      onto : (o : Option Z) → filter_map g (map f xs) ≡ map k (filter_map h xs)
          → cons_option (option_map k o) (filter_map g (map f xs)) ≡ map k (cons_option o (filter_map h xs))
      onto None more = more
      onto (Some z) more = ap (λ ys. k z ∷ ys) more

pub none_given : {X Y : Type 0} (h : X → Option Y) (xs : List X) → ((i : ℕ) → option_and_then h (slice_get xs i) ≡ None) → filter_map h xs ≡ []
none_given h [] none = refl
none_given h (x ∷ xs) none = ap₂ cons_option (none zero) (none_given h xs (λ i. none (suc i)))

pub take_behind : {X : Type 0} (xs ys : List X) (n k : ℕ) → length xs ≡ n → take (n + k) (xs ++ ys) ≡ xs ++ take k ys
take_behind [] ys n k e =
    let same : n + k ≡ k = omega arith in
    ap (λ m. take m ys) same
take_behind (x ∷ xs) ys n k e =
    let next : n + k ≡ suc (length xs + k) = omega arith in
    ap (λ m. take m (x ∷ (xs ++ ys))) next ∙ ap (λ zs. x ∷ zs) (take_behind xs ys (length xs) k refl)

pub given_of_mapped : {X Y Z : Type 0} (g : Y → Option Z) (f : X → Y) (h : X → Option Z) (xs : List X) → ((x : X) → g (f x) ≡ h x)
    → filter_map g (map f xs) ≡ filter_map h xs
given_of_mapped g f h [] same = refl
given_of_mapped g f h (x ∷ xs) same = ap₂ cons_option (same x) (given_of_mapped g f h xs same)

pub none_of_mapped : {X Y Z : Type 0} (g : Y → Option Z) (f : X → Y) (xs : List X) → ((x : X) → g (f x) ≡ None) → filter_map g (map f xs) ≡ []
none_of_mapped g f [] none = refl
none_of_mapped g f (x ∷ xs) none = ap₂ cons_option (none x) (none_of_mapped g f xs none)

-- what is given of the elements of which something is given
pub given_of_kept : {X Y : Type 0} (h : X → Option Y) (xs : List X) → filter_map h (filter (λ x. is_some (h x)) xs) ≡ filter_map h xs
given_of_kept h [] = refl
given_of_kept {X} {Y} h (x ∷ xs) = by_case (h x) refl (given_of_kept h xs) where
  by_case : (o : Option Y) → h x ≡ o → filter_map h (filter (λ y. is_some (h y)) xs) ≡ filter_map h xs
      → filter_map h (cond (is_some o) (x ∷ filter (λ y. is_some (h y)) xs) (filter (λ y. is_some (h y)) xs)) ≡ cons_option o (filter_map h xs)
  by_case None e more = more
  by_case (Some y) e more = ap₂ cons_option e more

-- ---- numbers

pub split_at : (n k : ℕ) → (k < n) ⊎ ((j : ℕ) × (k ≡ n + j))
split_at n k = by_order (cases_lt k n) where
  by_order : (k < n) ⊎ (n ≤ k) → (k < n) ⊎ ((j : ℕ) × (k ≡ n + j))
  by_order (inl l) = inl l
  by_order (inr l) = inr (k - n, omega arith)

pub below_behind : (n k : ℕ) → below (n + k) ≡ below n ++ calls_behind n (below k)
below_behind n zero =
    let same : n + 0 ≡ n = omega arith in
    ap below same ∙ sym (append-nil (below n))
below_behind n (suc k) =
    let next : n + suc k ≡ suc (n + k) = omega arith in
    ap below next ∙ ap (λ ys. ys ++ (n + k) ∷ []) (below_behind n k)
    ∙ append_assoc (below n) (calls_behind n (below k)) ((n + k) ∷ [])
    ∙ ap (λ ys. below n ++ ys) (sym (map-append (λ (x : ℕ). n + x) (below k) (k ∷ [])))

pub flat_map_same : {X Y : Type 0} (f g : X → List Y) (xs : List X) → ((x : X) → In x xs → f x ≡ g x) → flat_map f xs ≡ flat_map g xs
flat_map_same f g [] same = refl
flat_map_same f g (x ∷ xs) same = ap₂ ◌++◌ (same x (inl refl)) (flat_map_same f g xs (λ y i. same y (inr i)))

pub flat_map-map : {X Y Z : Type 0} (f : Y → List Z) (g : X → Y) (xs : List X) → flat_map f (map g xs) ≡ flat_map (λ x. f (g x)) xs
flat_map-map f g [] = refl
flat_map-map f g (x ∷ xs) = ap (λ ys. f (g x) ++ ys) (flat_map-map f g xs)

pub nil_if_none : {X : Type 0} (xs : List X) → ((x : X) → In x xs → ⊥) → xs ≡ []
nil_if_none [] none = refl
nil_if_none (x ∷ xs) none = absurd (none x (inl refl))

pub to_list_of_mapped : {X Y : Type 0} (f : X → Y) (o : Option X) → option_to_list (option_map f o) ≡ map f (option_to_list o)
to_list_of_mapped f None = refl
to_list_of_mapped f (Some x) = refl

pub none_kept : {X Y : Type 0} (p : Y → Bool) (f : X → Y) (xs : List X) → ((x : X) → p (f x) ≡ false) → filter p (map f xs) ≡ []
none_kept p f [] none = refl
none_kept p f (x ∷ xs) none = ap₂ (λ b ys. cond b (f x ∷ ys) ys) (none x) (none_kept p f xs none)

-- ---- options

pub of_mapped : {X Y : Type 0} (f : X → Y) (o : Option X) (y : Y) → option_map f o ≡ Some y → (x : X) × (o ≡ Some x) × (f x ≡ y)
of_mapped f None y e = absurd (none-some y e)
of_mapped f (Some x) y e = (x, refl, same_Some (f x) y e)

pub some_of_mapped : {X Y : Type 0} (f : X → Y) (o : Option X) → IsSome (option_map f o) → IsSome o
some_of_mapped f None h = h
some_of_mapped f (Some x) h = refl

pub mapped_some : {X Y : Type 0} (f : X → Y) (o : Option X) → IsSome o → IsSome (option_map f o)
mapped_some f None h = h
mapped_some f (Some x) h = refl
