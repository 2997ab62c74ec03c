use Rattle.std.proofs.Common.{◌∙◌}
use Rattle.nr_ring.proofs.Appends.{bar_explains}
use Rattle.nr_ring.proofs.FirstWords.{tails_are}
use Rattle.nr_ring.proofs.passing.batch.why_not.Goals as goal

pub returns-in-Ok : goal.returns-in-Ok
returns-in-Ok c = λ log last are. let room = c.in-Ok.ensures log last are in (c.tails_in.ensures ∙ tails_are log last c.args.head.now are, room.0, room.1)

pub returns-in-Err : goal.returns-in-Err
returns-in-Err c = λ log last are. bar_explains c.args.places log c.args.count c.in-Err.fault (c.in-Err.ensures log last are)
