use Rattle.std.proofs.Common.{◌≡◌, ◌++◌, take}
use Rattle.std.specs.List.{flat_map}
use Rattle.nr_trace.specs.Spelling.{event}
use Rattle.nr_trace.proofs.writing.lists.put_events.Given as goal

abbrev pub invariant-loop-recorded : goal.invariant-loop-recorded
invariant-loop-recorded l = l.out.items ≡ l.fn.out.items ++ flat_map event (take l.recorded-index l.events)
