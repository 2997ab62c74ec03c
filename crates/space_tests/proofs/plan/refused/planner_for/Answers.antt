use Rattle.std.proofs.Common.{◌≡◌, Some, Result, Ok, Err, sym, subst, ◌∙◌}
use Rattle.std.specs.Prelude.{MatchResult}
use Rattle.std.specs.Result.{result_ok}
use Rattle.vs_plan.specs.Planner.{AwaitsWords}
use Rattle.space_tests.proofs.plan.refused.planner_for.Goals as goal

of_ok : {T E : Type 0} (P : T → Type 0) (r : Result T E) (x : T) → result_ok r ≡ Some x → MatchResult r P (λ e. Unit {0}) → P x
of_ok P (Ok y) x same is = subst P (one y x same) is where
  one : {T : Type 0} (y x : T) → Some y ≡ Some x → y ≡ x
  one y x same = cc
of_ok P (Err e) x same is = absurd (cc)

pub returns : goal.returns
returns g c = of_ok (λ p. AwaitsWords p) c.new.result c.expect.result (sym c.ok.ensures.value ∙ c.expect.ensures) c.new.ensures.awaits
