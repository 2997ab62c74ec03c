use Rattle.vs_plan.proofs.Kept.{finds_walk, stays_up_to_date}
use Rattle.vs_plan.proofs.laws.up_to_date_processors_find_walks.Goals as goal

pub returns : goal.returns
returns c = record { find = finds_walk; stay = stays_up_to_date }
