-- The updates before each call, counted from the last member of an order back.
use Rattle.std.proofs.Common.{◌≡◌, ℕ, zero, suc, ◌+◌, ◌<◌, ◌⊎◌, inl, inr, Bool, true, false, cond, List, [], ◌∷◌, ◌++◌, length, take, slice_get, Option, Some}
use Rattle.std.proofs.Common.{is_some, option_to_list, ap, sym, ◌∙◌, subst, arith}
use Rattle.std.specs.Prelude.{drop}
use Rattle.std.proofs.lemmas.Bool.{cases_eq}
use Rattle.std.proofs.lemmas.List.{length-append}
use Rattle.std.proofs.lemmas.List.Elements.{filter-append}
use Rattle.std.proofs.lemmas.Option.{none-some, same_Some}
use Rattle.nr_trace.specs.Recording.{Recording}
use Rattle.nr_trace.specs.Calls.{operation_of}
use Rattle.nr_trace.specs.Orders.{before, updates}
use Rattle.nr_trace.proofs.LawsOfLists.{before_here, before_there, take-next}
use Rattle.nr_order.specs.inside.Counted.{AreCountedFrom}

-- a list from a member on
pub drop-next : {X : Type 0} (n : ℕ) (xs : List X) (x : X) → slice_get xs n ≡ Some x → drop n xs ≡ x ∷ drop (suc n) xs
drop-next n [] x is = absurd (none-some x is)
drop-next {X} zero (y ∷ xs) x is = ap (λ (z : X). z ∷ xs) (same_Some y x is)
drop-next (suc n) (y ∷ xs) x is = drop-next n xs x is

module _ (trace : Recording) where
  -- the updates of a list that begins with a call
  pub count_cons : (call : ℕ) (calls : List ℕ)
      → length (updates trace (call ∷ calls)) ≡ length (updates trace (call ∷ [])) + length (updates trace calls)
  count_cons call calls = by_test (is_some (operation_of trace call)) where
    by_test : (b : Bool) → length (cond b (call ∷ updates trace calls) (updates trace calls)) ≡ length (cond b (call ∷ []) []) + length (updates trace calls)
    by_test true = let it : suc (length (updates trace calls)) ≡ 1 + length (updates trace calls) = omega arith in it
    by_test false = let it : length (updates trace calls) ≡ 0 + length (updates trace calls) = omega arith in it

  -- those of one more of the first members
  pub count_take : (order : List ℕ) (n call : ℕ) → slice_get order n ≡ Some call
      → length (updates trace (take (suc n) order)) ≡ length (updates trace (take n order)) + length (updates trace (call ∷ []))
  count_take order n call is =
      ap (λ (calls : List ℕ). length (updates trace calls)) (take-next n order ∙ ap (λ (o : Option ℕ). take n order ++ option_to_list o) is)
      ∙ ap length (filter-append (λ member. is_some (operation_of trace member)) (take n order) (call ∷ []))
      ∙ length-append (updates trace (take n order)) (updates trace (call ∷ []))

  -- one member more is counted: those before it are the first members
  pub counted_more : (order : List ℕ) (n call : ℕ) (old new : List ℕ) → slice_get order n ≡ Some call
      → AreCountedFrom trace order (suc n) old → length new ≡ length old
      → (call < length new → slice_get new call ≡ Some (length (updates trace (take n order))))
      → ((other : ℕ) → (other ≡ call → ⊥) → slice_get new other ≡ slice_get old other)
      → AreCountedFrom trace order n new
  counted_more order n call old new is counted many own others = λ other within. by_case other within (cases_eq call other) where
    first : drop n order ≡ call ∷ drop (suc n) order
    first = drop-next n order call is

    by_case : (other : ℕ) → other < length new → (call ≡ other) ⊎ (call ≡ other → ⊥)
        → slice_get new other ≡ Some (length (updates trace (take n order)) + length (updates trace (before other (drop n order))))
    by_case other within (inl same) =
        let none : before other (drop n order) ≡ [] = ap (before other) first ∙ before_here other call (drop (suc n) order) same in
        let count : length (updates trace (before other (drop n order))) ≡ 0 = ap (λ (calls : List ℕ). length (updates trace calls)) none in
        let sum : length (updates trace (take n order)) ≡ length (updates trace (take n order)) + length (updates trace (before other (drop n order))) =
        omega (arith, count) in
        subst (λ (c : ℕ). slice_get new c ≡ Some (length (updates trace (take n order)))) same
        (own (subst (λ (c : ℕ). c < length new) (sym same) within)) ∙ ap Some sum
    by_case other within (inr differs) =
        let more : before other (drop n order) ≡ call ∷ before other (drop (suc n) order) =
        ap (before other) first ∙ before_there other call (drop (suc n) order) differs in
        let count : length (updates trace (before other (drop n order)))
        ≡ length (updates trace (call ∷ [])) + length (updates trace (before other (drop (suc n) order))) =
        ap (λ (calls : List ℕ). length (updates trace calls)) more ∙ count_cons call (before other (drop (suc n) order)) in
        let taken = count_take order n call is in
        let sum : length (updates trace (take (suc n) order)) + length (updates trace (before other (drop (suc n) order)))
        ≡ length (updates trace (take n order)) + length (updates trace (before other (drop n order))) = omega (arith, count, taken) in
        others other (λ e. differs (sym e)) ∙ counted other (let l : other < length old = omega (arith, many, within) in l) ∙ ap Some sum
