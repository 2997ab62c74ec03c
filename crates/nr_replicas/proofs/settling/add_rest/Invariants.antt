use Rattle.std.proofs.Common.{◌≡◌, ◌++◌, map, take}
use Rattle.nr_replicas.proofs.settling.add_rest.Given as goal

abbrev pub invariant-loop-entry : goal.invariant-loop-entry
invariant-loop-entry g l = (l.pass ≡ l.initial.pass) × (l.calls.items ≡ l.fn.calls.items ++ map (λ entry. entry.call) (take l.entry-index l.entry-items))
