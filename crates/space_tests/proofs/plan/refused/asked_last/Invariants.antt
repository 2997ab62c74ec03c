-- The planner waits for words.
use Rattle.vs_plan.specs.Planner.{AwaitsWords}
use Rattle.space_tests.proofs.plan.refused.asked_last.Given as goal

abbrev pub invariant-loop : goal.invariant-loop
invariant-loop g l = AwaitsWords l.planner
