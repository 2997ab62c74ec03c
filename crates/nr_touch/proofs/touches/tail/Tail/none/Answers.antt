use Rattle.std.proofs.Common.{length, ap, arith}
use Rattle.vs_types.proofs.Lists.{not_in_nil}
use Rattle.nr_touch.proofs.cuts.Levels.{no_levels}
use Rattle.nr_touch.proofs.touches.tail.Tail.none.Goals as goal

pub returns-clause-sound : goal.returns-clause-sound
returns-clause-sound c = (
  record {
    few = let none = ap length c.new.ensures.items in omega (arith, none);
    each = λ left has. absurd (not_in_nil left (rw c.new.ensures.items at has));
  },
  rw (c.new.ensures.items, c.new-2.ensures.items) no_levels,
  tt,
)
