use Rattle.std.proofs.Common.{◌≡◌, [], map, replicate}
use Rattle.nr_script.proofs.gathering.no_lists.Given as goal

abbrev pub invariant-loop-thread : goal.invariant-loop-thread
invariant-loop-thread l = map (λ list. list.items) l.lists.items ≡ replicate l.thread []
