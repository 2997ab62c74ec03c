use Rattle.std.proofs.Common.{◌≡◌, None}
use Rattle.nr_replicas.specs.Replicas.{HasHeard}
use Rattle.nr_replicas.proofs.replicas.Replicas.wait.Given as goal

abbrev pub invariant-loop-taken : goal.invariant-loop-taken
invariant-loop-taken g l = (l.pass.log ≡ l.fn.pass.log)
    × HasHeard g.J.LogName.depth g.J.LogName.replicas l.fn.pass.view l.pass.view × (l.own ≡ None)
