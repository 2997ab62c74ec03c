use Rattle.std.proofs.Common.{◌≡◌, ◌==◌, None, take}
use Rattle.std.specs.Prelude.{find}
use Rattle.nr_core.proofs.runs.batch.find_noted.Given as goal

abbrev pub invariant-loop-update : goal.invariant-loop-update
invariant-loop-update l = find (λ update. update.thread == l.thread) (take l.update-index l.batch) ≡ None
