-- Lists that grow by one, and what is left of one.
use Rattle.std.proofs.Common.{◌≡◌, ℕ, zero, suc, ◌+◌, ◌-◌, ◌<◌, List, [], ◌∷◌, ◌++◌, All, Some, length, map, get_or, take, drop, drop-cons, ap, sym, ◌∙◌, arith}
use Rattle.std.proofs.lemmas.List.{length-drop, map-append, take_all, take_more}

pub all_one : {X : Type 0} (P : X → Type 0) (x : X) → P x → All P (x ∷ [])
all_one P x p zero d lt = p
all_one P x p (suc k) d lt = absurd (omega arith)

-- one element more
pub take_to_one_more : {X : Type 0} (xs : List X) (i : ℕ) (x : X) → i < length xs → x ≡ get_or xs i x → take (i + 1) xs ≡ take i xs ++ x ∷ []
take_to_one_more {X} xs i x lt is = take_more xs i x lt ∙ ap (λ (y : X). take i xs ++ y ∷ []) (sym is)

-- and of the list that a map makes
pub map_one_more : {X Y : Type 0} (f : X → Y) (xs : List X) (i : ℕ) (x : X) → i < length xs → x ≡ get_or xs i x
    → map f (take (i + 1) xs) ≡ map f (take i xs) ++ f x ∷ []
map_one_more f xs i x lt is = ap (map f) (take_to_one_more xs i x lt is) ∙ map-append f (take i xs) (x ∷ [])

-- what is left from a place on is the element there, and what is left from the next on
pub drop_here : {X : Type 0} (xs : List X) (i : ℕ) (x : X) → i < length xs → x ≡ get_or xs i x → drop i xs ≡ x ∷ drop (i + 1) xs
drop_here {X} xs i x lt is =
    let next : suc i ≡ i + 1 = omega arith in
    drop-cons xs i x lt ∙ ap (λ (y : X). y ∷ drop (suc i) xs) (sym is) ∙ ap (λ n. x ∷ drop n xs) next

pub same_some : {X : Type 0} {x y : X} → Some x ≡ Some y → x ≡ y
same_some e = cc

-- a slice from a place on has what is left from there on
pub slice_from : {X : Type 0} (n : ℕ) (l items : List X) → l ≡ items → take (length l - n) (drop n l) ≡ drop n items
slice_from {X} n l items same = take_all (length l - n) (drop n l) (omega (arith, length-drop n l)) ∙ ap (λ (xs : List X). drop n xs) same
