use Rattle.std.proofs.Common.{All, take}
use Rattle.nr_serve.specs.SegmentRun.{IsAnswer}
use Rattle.nr_serve.proofs.endings.segment_ending.all_answered.Given as goal

abbrev pub invariant-loop-items : goal.invariant-loop-items
invariant-loop-items l = All (λ items. All IsAnswer items.items) (take l.items-index l.answers)
