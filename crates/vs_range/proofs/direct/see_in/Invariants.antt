use Rattle.vs_plan.specs.Planner.{sees_left}
use Rattle.vs_range.specs.Direct.{HasSeenIn}
use Rattle.vs_range.proofs.direct.see_in.Given as goal

abbrev pub invariant-loop-step : goal.invariant-loop-step
invariant-loop-step l = HasSeenIn l.fn.planner.target l.fn.planner.request l.fn.first l.fn.frames l.planner l.step

abbrev pub decreases-loop-step : goal.decreases-loop-step
decreases-loop-step l = sees_left l.planner l.step
