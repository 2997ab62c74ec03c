use Rattle.std.proofs.Common.{ap}
use Rattle.vs_walk.specs.Traversal.{reached, found}
use Rattle.vs_walk.proofs.ExamplesOfTables as tables
use Rattle.vs_walk.proofs.examples.five_levels.Goals as goal

pub returns-clause-mapped : goal.returns-clause-mapped
returns-clause-mapped c = tables.high_walk

pub returns-clause-not_mapped : goal.returns-clause-not_mapped
returns-clause-not_mapped c = tables.high_walk_below

pub returns-clause-reached : goal.returns-clause-reached
returns-clause-reached c = ap reached tables.high_visits

pub returns-clause-found : goal.returns-clause-found
returns-clause-found c = ap found tables.high_visits

pub returns-clause-faultless : goal.returns-clause-faultless
returns-clause-faultless c = tables.high_faultless

pub returns-clause-reserved_bit : goal.returns-clause-reserved_bit
returns-clause-reserved_bit c = tables.root_bit

pub returns-clause-empty : goal.returns-clause-empty
returns-clause-empty c = tables.empty_root

pub returns-clause-with_four : goal.returns-clause-with_four
returns-clause-with_four c = tables.high_walk_with_four

pub returns-clause-found_with_four : goal.returns-clause-found_with_four
returns-clause-found_with_four c = ap found tables.high_visits_with_four
