use Rattle.std.proofs.Common.{◌≡◌, map, take}
use Rattle.nr_core.specs.Run.{after_steps}
use Rattle.nr_core.specs.State.{start}
use Rattle.nr_core.proofs.runs.running.run_steps.Given as goal

abbrev pub invariant-loop-step : goal.invariant-loop-step
invariant-loop-step l = l.core ≡ after_steps (start l.fn.config (map (λ script. script.items) l.fn.scripts.items)) (take l.step-index l.steps)
