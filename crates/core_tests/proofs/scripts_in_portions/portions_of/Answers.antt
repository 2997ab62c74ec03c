use Rattle.std.proofs.Common.{◌≡◌, ◌∙◌, ◌-◌, ℕ, List, ap, drop, length, sym, take, arith}
use Rattle.std.proofs.lemmas.Bool.{eqb-false}
use Rattle.std.proofs.lemmas.List.{length-drop, take_rest}
use Rattle.core_tests.proofs.scripts_in_portions.portions_of.Goals as goal

pub loop-rest-smaller-then-asked-most : goal.loop-rest-smaller-then-asked-most
loop-rest-smaller-then-asked-most c =
    let rest = c.loop-rest.rest.now in
    let count = c.in_ok-count.count in
    let left : length (take (length rest - count) (drop count rest)) ≡ length (drop count rest) = ap (λ (l : List ℕ). length l) (take_rest rest count) in
    let long = length-drop count rest in
    let some = c.in_ok-count.ensures.some c.loop-rest.invariant
    (omega (arith, eqb-false (length rest) 0 (sym c.is_empty.ensures ∙ c.loop-rest-test.true))) in
    omega (arith, left, long, some, c.in_ok-count.ensures.within)

pub loop-rest-smaller : goal.loop-rest-smaller
loop-rest-smaller c =
    let rest = c.loop-rest.rest.now in
    let count = c.in_ok-count.count in
    let left : length (take (length rest - count) (drop count rest)) ≡ length (drop count rest) = ap (λ (l : List ℕ). length l) (take_rest rest count) in
    let long = length-drop count rest in
    let some = c.in_ok-count.ensures.some c.loop-rest.invariant
    (omega (arith, eqb-false (length rest) 0 (sym c.is_empty.ensures ∙ c.loop-rest-test.true))) in
    omega (arith, left, long, some, c.in_ok-count.ensures.within)
