use Rattle.std.proofs.Common.{rules}
use Rattle.nrvs_c.proofs.Surplus.{open_with_more}
use Rattle.nrvs_c.proofs.change.make.Goals as goal

pub returns-clause-open : goal.returns-clause-open
returns-clause-open c = open_with_more _ _ _ _ c.own-1.given.0 _ (search rules) (search rules) c.make_in-closed.ensures.open
