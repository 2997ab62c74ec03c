use Rattle.std.proofs.Common.{All, take}
use Rattle.nr_trace.specs.Recording.{IsEvent}
use Rattle.nr_trace.proofs.formats.ranges.first_out_of_range.Given as goal

abbrev pub invariant-loop-index : goal.invariant-loop-index
invariant-loop-index l = All (IsEvent l.version l.layout) (take l.index l.events)
