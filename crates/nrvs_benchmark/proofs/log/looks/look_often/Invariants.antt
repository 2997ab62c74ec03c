use Rattle.std.specs.Prelude.{◌≡◌}
use Rattle.nrvs_benchmark.proofs.log.looks.look_often.Given as goal

abbrev pub invariant-loop : goal.invariant-loop
invariant-loop g l = l.pass.log ≡ l.log
