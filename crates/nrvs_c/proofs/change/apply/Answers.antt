use Rattle.std.proofs.Common.{rules}
use Rattle.nrvs_c.proofs.Surplus.{open_with_more, step_with_more}
use Rattle.nrvs_c.proofs.change.apply.Goals as goal

pub returns-clause-open : goal.returns-clause-open
returns-clause-open c = open_with_more _ _ _ _ c.own-1.given.0 _ (search rules) (search rules) c.apply_in-changed.ensures.open

pub returns-clause-step : goal.returns-clause-step
returns-clause-step c = step_with_more _ _ _ _ _ _ _ _ c.own-1.given.0 _ c.split_at_mut-own.ensures.front (search rules) (search rules) c.requires.open
    c.apply_in-changed.ensures.open c.apply_in-changed.ensures.step
