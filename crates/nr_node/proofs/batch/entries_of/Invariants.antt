use Rattle.std.proofs.Common.{◌≡◌, ◌<◌, take, All}
use Rattle.vs_types.specs.declared.limits.TheConstants.{CALLS}
use Rattle.nr_node.specs.Calls.{entries_of}
use Rattle.nr_node.proofs.batch.entries_of.Given as goal

abbrev pub invariant-loop-waiting : goal.invariant-loop-waiting
invariant-loop-waiting l = (l.entries.items ≡ entries_of (take l.waiting-index l.batch.items)) × All (λ entry. entry.call < CALLS) l.entries.items
