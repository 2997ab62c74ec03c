use Rattle.std.proofs.Common.{◌≡◌, ◌<◌, take, All}
use Rattle.vs_types.specs.declared.limits.TheConstants.{CALLS}
use Rattle.nr_node.specs.Calls.{entries_of}
use Rattle.nr_node.proofs.batch.ask_for.Given as goal

abbrev pub invariant-loop-place : goal.invariant-loop-place
invariant-loop-place l = (take l.place l.asked ≡ entries_of (take l.place l.batch.items)) × All (λ entry. entry.call < CALLS) (take l.place l.asked)
