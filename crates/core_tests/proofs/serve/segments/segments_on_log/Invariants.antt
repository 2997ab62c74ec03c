use Rattle.std.proofs.Common.{◌≡◌}
use Rattle.core_tests.proofs.serve.segments.segments_on_log.Given as goal

abbrev pub invariant-loop-scripts : goal.invariant-loop-scripts
invariant-loop-scripts g l = l.run.layout ≡ l.fn.config
