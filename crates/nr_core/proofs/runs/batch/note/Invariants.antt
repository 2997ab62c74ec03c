use Rattle.std.proofs.Common.{◌≡◌, ◌++◌, map, take, drop}
use Rattle.nr_core.specs.Steps as steps
use Rattle.nr_core.proofs.runs.batch.note.Given as goal

abbrev pub invariant-loop-update : goal.invariant-loop-update
invariant-loop-update l = l.update-items ≡ map (steps.note l.answered) (take l.update-index l.fn.batch.items) ++ drop l.update-index l.fn.batch.items
