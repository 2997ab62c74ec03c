use Rattle.nr_machine.specs.Sound.{IsSound}
use Rattle.replicas_tests.proofs.machine.schedules.run.Given as goal

abbrev pub invariant-steps : goal.invariant-steps
invariant-steps l = IsSound l.a × IsSound l.b × IsSound l.c

abbrev pub invariant-ends : goal.invariant-ends
invariant-ends l = IsSound l.a × IsSound l.b × IsSound l.c
