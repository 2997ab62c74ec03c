use Rattle.nrvs_c.proofs.InRange.{usable}
use Rattle.nrvs_c.proofs.change.make_in.Goals as goal

pub returns-clause-usable : goal.returns-clause-usable
returns-clause-usable c = let closed = c.close.ensures in usable _ _ _ closed.open _ closed.made closed.levels closed.frames
