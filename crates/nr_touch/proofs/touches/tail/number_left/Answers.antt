use Rattle.std.proofs.Common.{arith}
use Rattle.nr_touch.proofs.touches.tail.number_left.Goals as goal

pub returns : goal.returns
returns c = let aligned = c.requires.aligned in omega (arith, c.number_at.ensures, aligned)
