-- The planner waits for what the step says.
use Rattle.vs_plan.specs.Planner.{Awaits}
use Rattle.space_tests.proofs.plan.carried.planned.Given as goal

abbrev pub invariant-loop : goal.invariant-loop
invariant-loop g l = Awaits l.planner l.step
