-- Elements of a list by their index, where an element is written or more are appended.
use Rattle.std.proofs.Common.{◌≡◌, ℕ, zero, suc, ◌≤◌, ◌⊎◌, inl, inr, Bool, true, false, cond, List, [], ◌∷◌, ◌++◌, length, take, map, Some, refl, ap, ap₂, ◌∙◌}
use Rattle.std.proofs.Common.{subst, arith}
use Rattle.std.specs.Prelude.{find, option_map, slice_set}
use Rattle.std.proofs.lemmas.Option.{same_Some, none-some, slice_get-map, slice_get_within}
use Rattle.nr_trace.proofs.LawsOfLists.{In, slice_get-set_other, slice_get-set_same}
use Rattle.nr_core.specs.inside.Reached.{At}

pub each_set : {X : Type 0} (P : ℕ → X → Type 0) (xs : List X) (i : ℕ) (y : X) → P i y → ((j : ℕ) (x : X) → (j ≡ i → ⊥) → At xs j x → P j x)
    → (j : ℕ) (x : X) → At (slice_set xs i y) j x → P j x
each_set P [] i y h k j x e = absurd (none-some x e)
each_set P (z ∷ xs) zero y h k zero x e = subst (P 0) (same_Some y x e) h
each_set P (z ∷ xs) zero y h k (suc j) x e = k (suc j) x (λ q. absurd (omega arith)) e
each_set P (z ∷ xs) (suc i) y h k zero x e = k 0 x (λ q. absurd (omega arith)) e
each_set P (z ∷ xs) (suc i) y h k (suc j) x e =
    each_set (λ n a. P (suc n) a) xs i y h (λ n a out at. k (suc n) a (λ q. out (omega arith)) at) j x e

pub at_set : {X : Type 0} (xs : List X) (i : ℕ) (x y : X) → At xs i x → At (slice_set xs i y) i y
at_set xs i x y e = slice_get-set_same xs i y (slice_get_within xs i x e)

pub at_other : {X : Type 0} (xs : List X) (i j : ℕ) (x y : X) → (j ≡ i → ⊥) → At xs j x → At (slice_set xs i y) j x
at_other xs i j x y out e = slice_get-set_other xs i j y out ∙ e

pub at_front : {X : Type 0} (xs ys : List X) (i : ℕ) (x : X) → At xs i x → At (xs ++ ys) i x
at_front [] ys i x e = absurd (none-some x e)
at_front (z ∷ xs) ys zero x e = e
at_front (z ∷ xs) ys (suc i) x e = at_front xs ys i x e

pub at_end : {X : Type 0} (xs : List X) (x : X) → At (xs ++ x ∷ []) (length xs) x
at_end [] x = refl
at_end (z ∷ xs) x = at_end xs x

pub in_at : {X : Type 0} (xs : List X) (i : ℕ) (x : X) → At xs i x → In x xs
in_at [] i x e = absurd (none-some x e)
in_at (z ∷ xs) zero x e = inl (same_Some z x e)
in_at (z ∷ xs) (suc i) x e = inr (in_at xs i x e)

pub at_in : {X : Type 0} (xs : List X) (x : X) → In x xs → (i : ℕ) × At xs i x
at_in [] x e = absurd e
at_in (z ∷ xs) x (inl e) = (0, ap Some e)
at_in (z ∷ xs) x (inr h) = let (i, e) = at_in xs x h in (suc i, e)

-- an element of a longer list is in its front, or is one of those appended
pub at_either : {X : Type 0} (xs ys : List X) (i : ℕ) (x : X) → At (xs ++ ys) i x → At xs i x ⊎ ((length xs ≤ i) × In x ys)
at_either [] ys i x e = inr (omega arith, in_at ys i x e)
at_either (z ∷ xs) ys zero x e = inl e
at_either (z ∷ xs) ys (suc i) x e = further (at_either xs ys i x e) where
  further : At xs i x ⊎ ((length xs ≤ i) × In x ys) → At xs i x ⊎ ((length (z ∷ xs) ≤ suc i) × In x ys)
  further (inl h) = inl h
  further (inr h) = let l = h.0 in inr (omega arith, h.1)

pub at_last : {X : Type 0} (xs : List X) (y : X) (i : ℕ) (x : X) → At (xs ++ y ∷ []) i x → At xs i x ⊎ ((i ≡ length xs) × (y ≡ x))
at_last [] y zero x e = inr (refl, same_Some y x e)
at_last [] y (suc i) x e = absurd (none-some x e)
at_last (z ∷ xs) y zero x e = inl e
at_last (z ∷ xs) y (suc i) x e = further (at_last xs y i x e) where
  further : At xs i x ⊎ ((i ≡ length xs) × (y ≡ x)) → At xs i x ⊎ ((suc i ≡ length (z ∷ xs)) × (y ≡ x))
  further (inl h) = inl h
  further (inr h) = let l = h.0 in inr (omega arith, h.1)

-- where one list goes on as another, their fronts are the same
pub same_front : {X : Type 0} (xs ys : List X) (n : ℕ) → ((i : ℕ) (x : X) → At xs i x → At ys i x) → n ≤ length xs → take n ys ≡ take n xs
same_front xs ys zero h l = refl
same_front [] ys (suc n) h l = absurd (omega arith)
same_front (x ∷ xs) [] (suc n) h l = absurd (none-some x (h 0 x refl))
same_front (x ∷ xs) (y ∷ ys) (suc n) h l =
    ap₂ ◌∷◌ (same_Some y x (h 0 x refl)) (same_front xs ys n (λ i a e. h (suc i) a e) (omega arith))

pub at_mapped : {X Y : Type 0} (f : X → Y) (xs : List X) (i : ℕ) (x : X) → At xs i x → At (map f xs) i (f x)
at_mapped f xs i x e = slice_get-map f xs i ∙ ap (option_map f) e

pub found_in : {X : Type 0} (p : X → Bool) (xs : List X) (x : X) → find p xs ≡ Some x → In x xs × (p x ≡ true)
found_in p [] x e = absurd (none-some x e)
found_in {X} p (y ∷ xs) x e = by_test (λ f. found_in p xs x f) (p y) refl e where
  by_test : (find p xs ≡ Some x → In x xs × (p x ≡ true)) → (b : Bool) → p y ≡ b → cond b (Some y) (find p xs) ≡ Some x → In x (y ∷ xs) × (p x ≡ true)
  by_test more true h f = let one : y ≡ x = same_Some y x f in (inl one, subst (λ (z : X). p z ≡ true) one h)
  by_test more false h f = let k = more f in (inr k.0, k.1)
