use Rattle.nr_trace.proofs.ExamplesOfRanges.{spelled}
use Rattle.nr_trace.proofs.examples.map_then_resolve_is_a_recording.Goals as goal

pub returns : goal.returns
returns c = spelled
