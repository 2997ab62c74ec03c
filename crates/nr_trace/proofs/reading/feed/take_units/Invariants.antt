use Rattle.std.proofs.Common.{length}
use Rattle.nr_trace.specs.inside.Progress.{form_of, said}
use Rattle.nr_trace.proofs.Feeding.{IsBetween}
use Rattle.nr_trace.proofs.reading.feed.take_units.Given as goal

abbrev pub invariant-loop-len : goal.invariant-loop-len
invariant-loop-len l = IsBetween (form_of l.fn.reader) (said l.fn.reader) l.bytes l.reader l.rest

abbrev pub decreases-loop-len : goal.decreases-loop-len
decreases-loop-len l = length l.rest
