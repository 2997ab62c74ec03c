use Rattle.std.proofs.Common.{All, take}
use Rattle.nr_trace.specs.Recording.{IsImage}
use Rattle.nr_trace.proofs.formats.ranges.all_have_frames.Given as goal

abbrev pub invariant-loop-dump : goal.invariant-loop-dump
invariant-loop-dump l = All (IsImage l.version) (take l.dump-index l.dumps)
