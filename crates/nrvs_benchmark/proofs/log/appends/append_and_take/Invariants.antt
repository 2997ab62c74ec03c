use Rattle.std.specs.Prelude.{◌≡◌}
use Rattle.nrvs_benchmark.proofs.log.appends.append_and_take.Given as goal

abbrev pub invariant-loop-call : goal.invariant-loop-call
invariant-loop-call g l = (l.pass.log ≡ l.fn.pass.log) × (l.pass.view.owns ≡ l.fn.pass.view.owns)

abbrev pub invariant-loop : goal.invariant-loop
invariant-loop g l = (l.pass.log ≡ l.fn.pass.log) × (l.pass.view.owns ≡ l.fn.pass.view.owns)
