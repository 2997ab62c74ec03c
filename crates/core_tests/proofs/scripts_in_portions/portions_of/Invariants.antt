use Rattle.std.proofs.Common.{◌<◌, length}
use Rattle.nr_script.specs.Portion.{request_count}
use Rattle.core_tests.proofs.scripts_in_portions.portions_of.Given as goal

abbrev pub invariant-loop-rest : goal.invariant-loop-rest
invariant-loop-rest l = request_count l.portion.lists < l.most

abbrev pub decreases-loop-rest : goal.decreases-loop-rest
decreases-loop-rest l = length l.rest
