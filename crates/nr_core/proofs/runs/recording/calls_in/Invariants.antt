use Rattle.std.proofs.Common.{◌≡◌, map, take}
use Rattle.nr_core.proofs.runs.recording.calls_in.Given as goal

abbrev pub invariant-loop-entry : goal.invariant-loop-entry
invariant-loop-entry l = l.calls.items ≡ map (λ entry. entry.call) (take l.entry-index l.log)
