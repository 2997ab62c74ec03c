-- Sums over the seats at a word, and seats by their number.
use Rattle.std.proofs.Common.{◌≡◌, ℕ, zero, suc, ◌+◌, ◌*◌, ◌<◌, ◌≤◌, List, [], ◌∷◌, All, length, get_or, take, drop, set, ap, sym, subst, arith}
use Rattle.std.specs.List.{sum_by}
use Rattle.std.proofs.lemmas.List.Elements.{All-drop, All-head, All-tail, All-take}
use Rattle.std.proofs.lemmas.List.Sums.{get_or-le-sum_by, sum_by-cons, sum_by-drop_more, sum_by-le, sum_by-set, sum_by-take-drop}
use mathlib.Core.Option.{some, some-injective, some-ne-none}
use lib.ListN.{get_elem?}

module _ {A : Type 0} where
  pub seat_below : (xs : List A) (i : ℕ) (v : A) → get_elem? xs i ≡ some v → i < length xs
  seat_below [] i v e = absurd (some-ne-none v (sym e))
  seat_below (x ∷ xs) zero v e = omega arith
  seat_below (x ∷ xs) (suc i) v e = let r = seat_below xs i v e in omega arith

  pub seat_is : (xs : List A) (i : ℕ) (v d : A) → get_elem? xs i ≡ some v → get_or xs i d ≡ v
  seat_is [] i v d e = absurd (some-ne-none v (sym e))
  seat_is (x ∷ xs) zero v d e = some-injective x v e
  seat_is (x ∷ xs) (suc i) v d e = seat_is xs i v d e

  pub of_seat : (P : A → Type 0) (xs : List A) (i : ℕ) (v : A) → All P xs → get_elem? xs i ≡ some v → P v
  of_seat P xs i v all at = subst P (seat_is xs i v v at) (all i v (seat_below xs i v at))

module _ {A : Type 0} (f : A → ℕ) where
  pub sum_set : (xs : List A) (i : ℕ) (v w : A) → get_elem? xs i ≡ some v → sum_by f (set xs i w) + f v ≡ sum_by f xs + f w
  sum_set xs i v w e = let is = ap f (seat_is xs i v v e) in omega (arith, sum_by-set f xs i w v (seat_below xs i v e), is)

  pub sum_has : (xs : List A) (i : ℕ) (v : A) → get_elem? xs i ≡ some v → f v ≤ sum_by f xs
  sum_has xs i v e = let is = ap f (seat_is xs i v v e) in omega (arith, get_or-le-sum_by f xs i v (seat_below xs i v e), is)

  -- the sum of what is before a seat, at it, and after it
  sum_parts : (xs : List A) (i : ℕ) (v : A) → get_elem? xs i ≡ some v → sum_by f xs ≡ sum_by f (take i xs) + f v + sum_by f (drop (i + 1) xs)
  sum_parts xs i v e =
      let is = ap f (seat_is xs i v v e) in omega (arith, sum_by-take-drop f xs i, sum_by-drop_more f xs i v (seat_below xs i v e), is)

module _ {A : Type 0} (f g : A → ℕ) where
  sum_le : (xs : List A) → All (λ x. f x ≤ g x) xs → sum_by f xs ≤ sum_by g xs
  sum_le [] all = omega arith
  sum_le (x ∷ xs) all =
      let r = sum_le xs (All-tail (λ x. f x ≤ g x) x xs all) in
      let z : f x ≤ g x = All-head (λ x. f x ≤ g x) x xs all in
      omega (arith, sum_by-cons f x xs, sum_by-cons g x xs, r, z)

  pub sum_lt : (xs : List A) (i : ℕ) (v : A) → All (λ x. f x ≤ g x) xs → get_elem? xs i ≡ some v → f v < g v → sum_by f xs < sum_by g xs
  sum_lt xs i v all e lt =
      let front = sum_le (take i xs) (All-take (λ x. f x ≤ g x) i xs all) in
      let back = sum_le (drop (i + 1) xs) (All-drop (λ x. f x ≤ g x) (i + 1) xs all) in
      omega (arith, sum_parts f xs i v e, sum_parts g xs i v e, front, back, lt)

  none_of : (xs : List A) → sum_by g xs ≡ 0 → All (λ x. f x ≤ 2 * g x) xs → sum_by f xs ≡ 0
  none_of xs e small =
      let none = sum_by-le f 0 xs (λ k d lt. let l = get_or-le-sum_by g xs k d lt in omega (arith, l, e, small k d lt)) in omega (arith, none)

  -- where one item has all of g, it has all of f
  pub sum_only : (xs : List A) (i : ℕ) (v : A) → get_elem? xs i ≡ some v → sum_by g xs ≡ g v → All (λ x. f x ≤ 2 * g x) xs → sum_by f xs ≡ f v
  sum_only xs i v e whole small =
      let parts = sum_parts g xs i v e in
      let front = none_of (take i xs) (omega (arith, parts, whole)) (All-take (λ x. f x ≤ 2 * g x) i xs small) in
      let back = none_of (drop (i + 1) xs) (omega (arith, parts, whole)) (All-drop (λ x. f x ≤ 2 * g x) (i + 1) xs small) in
      omega (arith, sum_parts f xs i v e, front, back)
