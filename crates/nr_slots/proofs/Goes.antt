-- A slot goes on from the state in which it was taken.
use Rattle.std.proofs.Common.{◌≡◌, ℕ, sym, subst}
use Rattle.nr_slots.specs.declared.state.TheConstants.{EMPTY, POSTED, TAKEN, READY}
use Rattle.nr_slots.specs.inside.Kept.{GoesTo, posts, takes, stays, answers, closes, polls}

pub posts_on : (from : ℕ) → from ≡ EMPTY → GoesTo from POSTED
posts_on from is = subst (λ (n : ℕ). GoesTo n POSTED) (sym is) posts

pub takes_on : (from : ℕ) → from ≡ POSTED → GoesTo from TAKEN
takes_on from is = subst (λ (n : ℕ). GoesTo n TAKEN) (sym is) takes

pub stays_taken : (from : ℕ) → from ≡ TAKEN → GoesTo from TAKEN
stays_taken from is = subst (λ (n : ℕ). GoesTo n TAKEN) (sym is) stays

pub answers_on : (from : ℕ) → from ≡ TAKEN → GoesTo from READY
answers_on from is = subst (λ (n : ℕ). GoesTo n READY) (sym is) answers

pub closes_on : (from : ℕ) → from ≡ TAKEN → GoesTo from EMPTY
closes_on from is = subst (λ (n : ℕ). GoesTo n EMPTY) (sym is) closes

pub polls_on : (from : ℕ) → from ≡ READY → GoesTo from EMPTY
polls_on from is = subst (λ (n : ℕ). GoesTo n EMPTY) (sym is) polls
