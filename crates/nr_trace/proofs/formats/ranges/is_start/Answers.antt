use Rattle.std.proofs.Common.{sym, ◌∙◌, arith}
use Rattle.std.proofs.lemmas.Bool.{leb-true}
use Rattle.nr_trace.proofs.Images.{start_tells}
use Rattle.nr_trace.proofs.formats.ranges.is_start.Goals as goal
use Rattle.nr_trace.proofs.formats.ranges.is_start.Goals.{then-frames-ge1, else-frames-ge1}

pub returns-then-frames-from : goal.returns-then-frames-from
returns-then-frames-from c =
    elim c.if-frames-ge1.branch [
      | then-frames-ge1 w ↦ (let few = leb-true c.count-frames.result w.from.result (sym w.value-is ∙ c.if-frames-from.true) in
          start_tells c.args.version c.args.start.now c.in-Some.start c.applied.result c.count-frames.result c.in-Some.is c.count-frames.ensures.is_dump
          c.count-frames.ensures.reads w.if-frames-ge1.true (omega (arith, few, w.from.ensures, w.most_start.ensures)) c.applied.ensures)
      | else-frames-ge1 w ↦ absurd (omega (arith, leb-true 1 c.count-frames.result (sym w.value-is ∙ c.if-frames-from.true), w.if-frames-ge1.false))
    ]
