use Rattle.std.proofs.Common.{◌≡◌, ◌≤◌, map, drop, take}
use Rattle.nr_node.specs.Node.{log_of}
use Rattle.nr_replicas.proofs.settling.calls_of.Given as goal

abbrev pub invariant-loop-place : goal.invariant-loop-place
invariant-loop-place g l = (l.node.base ≤ l.place)
    × (l.calls.items ≡ map (λ entry. entry.call) (drop l.node.base (take l.place (log_of g.J.LogName.replicas l.node).entries)))
