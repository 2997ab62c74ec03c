use Rattle.nr_touch.proofs.Excused.{right_where}
use Rattle.nr_touch.proofs.touches.excuse.is_right_behind.Goals as goal

pub returns : goal.returns
returns c = λ b. rw c.is_some.ensures (right_where b.before b.start b.segment c.args.touch.now c.excuse_of.result (c.excuse_of.ensures b))
