use Rattle.std.proofs.Common.{All, take}
use Rattle.nr_trace.specs.Versions.{KnowsEvent}
use Rattle.nr_trace.proofs.formats.version.Version.knows_events.Given as goal

abbrev pub invariant-loop-event : goal.invariant-loop-event
invariant-loop-event l = All (KnowsEvent l.self) (take l.event-index l.events)
