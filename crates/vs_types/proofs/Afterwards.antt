-- The space after one operation more, or after more of them.
use Rattle.std.proofs.Common.{◌≡◌, ℕ, zero, suc, ◌+◌, List, [], ◌∷◌, ◌++◌, take, slice_get, Option, Some, None, refl, ap, ◌∙◌, add-one}
use Rattle.vs_types.specs.Space.{Space, no_pages}
use Rattle.vs_types.specs.Step.{step, after_all, after}
use Rattle.vs_types.specs.declared.addresses.depth.Depth.{Depth}
use Rattle.vs_types.specs.declared.requests.op.Action.{Action}

pub after_all-append : (depth : Depth) (limit : ℕ) (space : Space) (xs ys : List Action)
    → after_all depth limit space (xs ++ ys) ≡ after_all depth limit (after_all depth limit space xs) ys
after_all-append depth limit space [] ys = refl
after_all-append depth limit space (x ∷ xs) ys = after_all-append depth limit (step depth limit space x).space xs ys

next_from : (depth : Depth) (limit : ℕ) (space : Space) (n : ℕ) (actions : List Action) (action : Action) → slice_get actions n ≡ Some action
    → after_all depth limit space (take (suc n) actions) ≡ (step depth limit (after_all depth limit space (take n actions)) action).space
next_from depth limit space zero [] action is = absurd cc
next_from depth limit space (suc n) [] action is = absurd cc
next_from depth limit space zero (first ∷ later) action is = ap (λ o. after_all depth limit space (option_or first o ∷ [])) is where
  option_or : Action → Option Action → Action
  option_or other None = other
  option_or other (Some it) = it
next_from depth limit space (suc n) (first ∷ later) action is = next_from depth limit (step depth limit space first).space n later action is

pub after_next : (depth : Depth) (limit n : ℕ) (actions : List Action) (action : Action) → slice_get actions n ≡ Some action
    → after depth limit actions (n + 1) ≡ (step depth limit (after depth limit actions n) action).space
after_next depth limit n actions action is = ap (after depth limit actions) (add-one n) ∙ next_from depth limit no_pages n actions action is
