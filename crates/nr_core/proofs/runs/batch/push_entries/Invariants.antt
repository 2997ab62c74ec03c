use Rattle.std.proofs.Common.{◌≡◌, ◌+◌, ◌≤◌, ◌++◌, length, map, take, vec_len, vec_capacity}
use Rattle.nr_core.proofs.runs.batch.push_entries.Given as goal

abbrev pub invariant-loop-update : goal.invariant-loop-update
invariant-loop-update l =
    (l.log.items ≡ l.fn.log.items ++ map (λ update. update.entry) (take l.update-index l.batch))
    × (vec_len l.fn.log + length l.batch ≤ vec_capacity l.log)
