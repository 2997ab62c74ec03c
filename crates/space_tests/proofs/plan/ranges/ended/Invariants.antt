-- The planner waits for what the step says.
use Rattle.std.proofs.Common.{◌≡◌}
use Rattle.vs_plan.specs.Request.{address_of}
use Rattle.vs_range.specs.Planner.{AwaitsNext, IsRanged}
use Rattle.space_tests.proofs.plan.ranges.ended.Given as goal

abbrev pub invariant-loop : goal.invariant-loop
invariant-loop g l = AwaitsNext l.range l.step × (address_of l.range.planner.request ≡ l.range.base) × IsRanged l.range.planner.request
