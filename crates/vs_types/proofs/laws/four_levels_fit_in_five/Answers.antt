use Rattle.vs_types.proofs.Depths.{canonical_in_five, action_in_five, query_in_five}
use Rattle.vs_types.proofs.laws.four_levels_fit_in_five.Goals as goal

pub returns-clause-canonical : goal.returns-clause-canonical
returns-clause-canonical c = canonical_in_five

pub returns-clause-action : goal.returns-clause-action
returns-clause-action c = action_in_five

pub returns-clause-query : goal.returns-clause-query
returns-clause-query c = query_in_five
