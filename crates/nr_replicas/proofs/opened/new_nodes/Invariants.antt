use Rattle.std.proofs.Common.{◌≡◌, ◌+◌, [], All, length}
use Rattle.nr_replicas.specs.inside.Replicas.{IsNewPass, IsNodeOf}
use Rattle.nr_replicas.proofs.opened.new_nodes.Given as goal

abbrev pub invariant-loop-pass : goal.invariant-loop-pass
invariant-loop-pass g l =
    All (IsNewPass l.log) l.pass-iterator.rest.items × (length l.nodes.items + length l.pass-iterator.rest.items ≡ length l.fn.passes.items)
    × All (IsNodeOf l.log l.config.tables 0) l.nodes.items × All (λ node. node.batch ≡ []) l.nodes.items
