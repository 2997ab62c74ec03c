-- Where no reason holds, a call isn't refused.
use Rattle.std.proofs.Common.{◌≡◌, ℕ, ◌^◌, ◌<◌, ◌≤◌, nat_lt, nat_eq, Bool, true, false, cond, Option, Some, None, List, length, refl, ap, arith}
use Rattle.std.specs.Prelude.{not}
use Rattle.std.specs.List.{list_all}
use Rattle.std.proofs.lemmas.Bool.Decides.{nat_tests}
use Rattle.nr_machine.specs.declared.asked.Refusal.{Refusal}
use Rattle.nr_machine.specs.declared.asked.Refusal.TheVariants.{Busy, Empty, TooMany, TooLarge}
use Rattle.nr_machine.specs.declared.node.Node.{Node}
use Rattle.nr_machine.specs.declared.phase.Phase.TheVariants as phases
use Rattle.nr_machine.specs.declared.words.Update.{Update}
use Rattle.nr_machine.specs.Fields.{phase_of}
use Rattle.nr_machine.specs.Machine.{is_at_rest, refusal_of}

pub no_refusal : (node : Node) (updates : List Update) → phase_of node ≡ phases.Rest → (length updates ≡ 0 → ⊥) → length updates ≤ 16
    → list_all (λ (update : Update). nat_lt update.second (2 ^ 57)) updates ≡ true → refusal_of node updates ≡ None
no_refusal node updates rest some few small =
    by_tests (is_at_rest (phase_of node)) (ap is_at_rest rest) (nat_eq (length updates) 0) refl (nat_lt 16 (length updates)) refl
    (list_all (λ (update : Update). nat_lt update.second (2 ^ 57)) updates) small where
      by_tests : (a : Bool) → a ≡ true → (b : Bool) → nat_eq (length updates) 0 ≡ b → (c : Bool) → nat_lt 16 (length updates) ≡ c
          → (d : Bool) → d ≡ true
          → cond (not a) (Some Busy) (cond b (Some Empty) (cond c (Some TooMany) (cond d None (Some TooLarge)))) ≡ None
      by_tests false e b f c g d h = absurd (cc)
      by_tests true e true f c g d h = absurd (some (grind (arith, nat_tests, f)))
      by_tests true e false f true g d h = absurd (let past : 16 < length updates = grind (arith, nat_tests, g) in omega (arith, past, few))
      by_tests true e false f false g false h = absurd (cc)
      by_tests true e false f false g true h = refl
