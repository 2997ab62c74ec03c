-- Lists that are gone through one by one.
use Rattle.std.proofs.Common.{◌≡◌, ℕ, suc, ◌+◌, List, [], ◌∷◌, ◌++◌, All, length, take, drop, ap, sym, subst, ◌∙◌, arith}
use Rattle.std.proofs.Math.ListN.{length-append}
use Rattle.std.proofs.lemmas.List.{append-nil, drop_all, take_all}
use Rattle.std.proofs.lemmas.List.Elements.{All-push}

-- what holds of all holds of the first, and of the rest
pub first_and_rest : {X : Type 0} (P : X → Type 0) (all rest : List X) (x : X) → all ≡ x ∷ rest → All P all → P x × All P rest
first_and_rest P all rest x is holds =
    let here = subst (All P) is holds in (here 0 x (omega arith), λ k d lt. here (suc k) d (omega (arith, lt)))

pub holds_of_none : {X : Type 0} (P : X → Type 0) (all : List X) → all ≡ [] → All P all
holds_of_none P all is = subst (All P) (sym is) (λ k d lt. absurd (omega (arith, lt)))

-- and of one more
pub holds_of_more : {X : Type 0} (P : X → Type 0) (before after : List X) (x : X) → after ≡ before ++ x ∷ [] → All P before → P x → All P after
holds_of_more P before after x is holds here = subst (All P) (sym is) (All-push P before x holds here)

-- one is taken from the front of one list, and another put at the end of the other
pub one_over : {X Y : Type 0} (xs xs' : List X) (x : X) (ys ys' : List Y) (y : Y) (n : ℕ) → xs' ≡ xs ++ x ∷ [] → ys ≡ y ∷ ys'
    → length xs + length ys ≡ n → length xs' + length ys' ≡ n
one_over xs xs' x ys ys' y n more less is =
    omega (arith, ap (λ (l : List _). length l) more, ap (λ (l : List _). length l) less, length-append xs (x ∷ []), is)

-- a list into which as many were written as it had
pub written_over : {X : Type 0} (n : ℕ) (new items : List X) → length new ≡ length items → n ≡ length items → take n (new ++ drop (length new) items) ≡ new
written_over {X} n new items many long =
    ap (λ (l : List X). take n (new ++ l)) (drop_all (length new) items (omega (arith, many)))
    ∙ ap (λ (l : List X). take n l) (append-nil new)
    ∙ take_all n new (omega (arith, many, long))

-- and what it was
pub written_back : {X : Type 0} (n : ℕ) (new items : List X) → new ≡ items → n ≡ length items → take n (new ++ drop (length new) items) ≡ items
written_back {X} n new items same long = written_over n new items (ap (λ (l : List X). length l) same) long ∙ same
