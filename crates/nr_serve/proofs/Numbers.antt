-- Numbers in a rising list are those below a bound that pass its test.
use Rattle.std.proofs.Common.{◌≡◌, ℕ, zero, suc, ◌<◌, ◌≤◌, Bool, true, false, List, [], ◌∷◌, ◌++◌, All, Contains, cond, ltb, refl, ap, sym, ◌∙◌, arith}
use Rattle.std.proofs.lemmas.Bool.{false≢true}
use Rattle.std.specs.Prelude.{filter}
use Rattle.std.proofs.lemmas.List.{append-nil, get_or_default}
use Rattle.std.proofs.lemmas.List.Elements.{filter-append, All-head, All-tail, All-contains}
use Rattle.std.proofs.lemmas.Bool.Decides.{nat_tests}
use mathlib.Core.Logic.{dite}
use native.Mathlib.Decide.{ℕ_discrete}
use Rattle.std.proofs.Math.Decide.{dec_lt}
use Rattle.nr_trace.specs.Orders.{below}
use Rattle.nr_record.specs.Stamps.{Rise}
use Rattle.std.proofs.lemmas.Map.Made.{Contains-tail}

-- the numbers of a list that are below a bound
abbrev pub cut : ℕ → List ℕ → List ℕ
cut n xs = filter (λ x. ltb x n) xs

kept : (n x : ℕ) (xs : List ℕ) → x < n → cut n (x ∷ xs) ≡ x ∷ cut n xs
kept n x xs lt = let h : ltb x n ≡ true = grind (arith, nat_tests, lt) in ap (λ b. cond b (x ∷ cut n xs) (cut n xs)) h

left : (n x : ℕ) (xs : List ℕ) → n ≤ x → cut n (x ∷ xs) ≡ cut n xs
left n x xs le = let h : ltb x n ≡ false = grind (arith, nat_tests, le) in ap (λ b. cond b (x ∷ cut n xs) (cut n xs)) h

none_below : (n : ℕ) (xs : List ℕ) → All (λ x. n ≤ x) xs → cut n xs ≡ []
none_below n [] all = refl
none_below n (x ∷ xs) all =
    left n x xs (All-head (λ (y : ℕ). n ≤ y) x xs all) ∙ none_below n xs (All-tail (λ (y : ℕ). n ≤ y) x xs all)

pub all_below : (n : ℕ) (xs : List ℕ) → All (λ x. x < n) xs → cut n xs ≡ xs
all_below n [] all = refl
all_below n (x ∷ xs) all =
    kept n x xs (All-head (λ (y : ℕ). y < n) x xs all) ∙ ap (λ (ys : List ℕ). x ∷ ys) (all_below n xs (All-tail (λ (y : ℕ). y < n) x xs all))

cut_more : (n : ℕ) (xs : List ℕ) → Rise xs → Contains xs n → cut (suc n) xs ≡ cut n xs ++ n ∷ []
cut_more n [] rise has = absurd (omega (arith, has.1))
cut_more n (x ∷ xs) rise has =
    dite (dec_lt x n)
    (λ lt.
    let rest = cut_more n xs rise.1 (Contains-tail x xs n (λ e. omega arith) has) in
    kept (suc n) x xs (omega arith) ∙ ap (λ (ys : List ℕ). x ∷ ys) rest ∙ ap (λ (ys : List ℕ). ys ++ n ∷ []) (sym (kept n x xs lt)))
    (λ ge.
    let above : All (λ y. suc n ≤ y) xs = λ k d l. omega (arith, rise.0 k d l, ge) in
    let above' : All (λ y. n ≤ y) xs = λ k d l. omega (arith, rise.0 k d l, ge) in
    dite (ℕ_discrete x n)
    (λ same.
    kept (suc n) x xs (omega arith) ∙ ap (λ (ys : List ℕ). x ∷ ys) (none_below (suc n) xs above) ∙ ap (λ (y : ℕ). y ∷ []) same
    ∙ ap (λ (ys : List ℕ). ys ++ n ∷ []) (sym (left n x xs (omega arith) ∙ none_below n xs above')))
    (λ differ.
    let there = Contains-tail x xs n differ has in
    let later = All-contains (λ (y : ℕ). x < y) xs n rise.0 there in absurd (omega (arith, later, ge))))

cut_same : (n : ℕ) (xs : List ℕ) → All (λ x. x ≡ n → ⊥) xs → cut (suc n) xs ≡ cut n xs
cut_same n [] none = refl
cut_same n (x ∷ xs) none =
    let differ : x ≡ n → ⊥ = All-head (λ (y : ℕ). y ≡ n → ⊥) x xs none in
    let rest = cut_same n xs (All-tail (λ (y : ℕ). y ≡ n → ⊥) x xs none) in
    dite (dec_lt x n)
    (λ lt. kept (suc n) x xs (omega arith) ∙ ap (λ (ys : List ℕ). x ∷ ys) rest ∙ sym (kept n x xs lt))
    (λ ge.
    let more : suc n ≤ x = dite (ℕ_discrete x n) (λ same. absurd (differ same)) (λ other. omega arith) in
    left (suc n) x xs more ∙ rest ∙ sym (left n x xs (omega arith)))

-- what passes a test below n is a rising list cut at n, where just its numbers pass
filter_cut : (p : ℕ → Bool) (xs : List ℕ) → Rise xs → ((i : ℕ) → p i ≡ true → Contains xs i) → ((i : ℕ) → Contains xs i → p i ≡ true) → (n : ℕ)
    → filter p (below n) ≡ cut n xs
filter_cut p xs rise only all zero = sym (none_below 0 xs (λ k d lt. omega arith))
filter_cut p xs rise only all (suc n) =
    let before = filter-append p (below n) (n ∷ []) ∙ ap (λ (ys : List ℕ). ys ++ filter p (n ∷ [])) (filter_cut p xs rise only all n) in
    let by : (b : Bool) → p n ≡ b → filter p (below (suc n)) ≡ cut (suc n) xs = cases before in by (p n) refl where
      cases : filter p (below (suc n)) ≡ cut n xs ++ filter p (n ∷ []) → (b : Bool) → p n ≡ b → filter p (below (suc n)) ≡ cut (suc n) xs
      cases before true holds =
          before ∙ ap (λ b. cut n xs ++ cond b (n ∷ []) []) holds ∙ sym (cut_more n xs rise (only n holds))
      cases before false fails =
          let none : All (λ x. x ≡ n → ⊥) xs = λ k d lt same. absurd (false≢true (sym fails ∙ all n (k, lt, get_or_default xs k n d lt ∙ same))) in
          before ∙ ap (λ b. cut n xs ++ cond b (n ∷ []) []) fails ∙ append-nil (cut n xs) ∙ sym (cut_same n xs none)

-- where just the numbers of a rising list pass a test, and all are below n, these are what passes below n
pub passes_below : (p : ℕ → Bool) (xs : List ℕ) (n : ℕ) → Rise xs → All (λ x. x < n) xs → ((i : ℕ) → p i ≡ true → Contains xs i)
    → ((i : ℕ) → Contains xs i → p i ≡ true) → filter p (below n) ≡ xs
passes_below p xs n rise within only all = filter_cut p xs rise only all n ∙ all_below n xs within
