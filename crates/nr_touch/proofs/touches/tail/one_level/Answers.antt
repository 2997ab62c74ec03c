use Rattle.nr_touch.proofs.cuts.Levels.{level_of}
use Rattle.nr_touch.proofs.touches.tail.one_level.Goals as goal

pub returns : goal.returns
returns c =
    rw (c.in_ok-push.ensures.items, c.new-levels.ensures.items)
    (level_of c.args.changes.now c.in_ok-placed.field-0.items c.in_ok-of.field-0 c.in_ok-placed.ensures.each c.in_ok-of.ensures.same c.in_ok-of.ensures.columns)
