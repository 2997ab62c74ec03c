use Rattle.nr_machine.specs.Sound.{IsSound}
use Rattle.replicas_tests.proofs.machine.schedules.take_steps.Given as goal

abbrev pub invariant-steps : goal.invariant-steps
invariant-steps l = IsSound l.node
