use Rattle.std.proofs.Common.{◌≡◌}
use Rattle.nr_replicas.proofs.replicas.Replicas.ask.Given as goal

abbrev pub invariant-loop : goal.invariant-loop
invariant-loop g l = l.pass ≡ l.initial.pass
