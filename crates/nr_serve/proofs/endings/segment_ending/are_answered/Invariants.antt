use Rattle.std.proofs.Common.{All, take}
use Rattle.nr_serve.specs.SegmentRun.{IsAnswer}
use Rattle.nr_serve.proofs.endings.segment_ending.are_answered.Given as goal

abbrev pub invariant-loop-item : goal.invariant-loop-item
invariant-loop-item l = All IsAnswer (take l.item-index l.items)
