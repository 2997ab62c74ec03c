use Rattle.nr_trace.proofs.Taken.{AreRecording}
use Rattle.nr_trace.proofs.reading.lists.push_events.Given as goal

abbrev pub invariant-loop-k : goal.invariant-loop-k
invariant-loop-k l = AreRecording l.version l.layout l.fn.events.items l.bytes l.events.items l.k l.rest
