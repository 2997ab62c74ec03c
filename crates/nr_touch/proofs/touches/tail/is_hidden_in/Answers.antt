use Rattle.std.proofs.Common.{arith}
use Rattle.nr_touch.proofs.cuts.Thinned.{hidden_by}
use Rattle.nr_touch.proofs.touches.tail.is_hidden_in.Goals as goal

pub returns : goal.returns
returns c = λ t.
    hidden_by c.args.history.now.changes.items c.args.left.now c.args.place c.args.size c.flushed_of-until.result c.requires.columns.numbered c.requires.sound
    (omega (arith, c.level-own.ensures, c.level-other.ensures, c.if-other-own.false))
    (rw (c.number_at-number.ensures, c.finds_or_takes-finds.ensures) at c.flushed_of-until.ensures) (omega (arith, c.if-until-next.false))
