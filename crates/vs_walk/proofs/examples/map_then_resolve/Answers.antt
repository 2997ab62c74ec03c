use Rattle.std.proofs.Common.{refl, ap}
use Rattle.vs_walk.specs.Walk.{all_rights}
use Rattle.vs_walk.specs.Traversal.{reached, found}
use Rattle.vs_walk.proofs.ExamplesOfTables.{page_walk, page_walk_beside, page_visits, page_faultless}
use Rattle.vs_walk.proofs.examples.map_then_resolve.Goals as goal

pub returns-clause-mapped : goal.returns-clause-mapped
returns-clause-mapped c = page_walk 0x4007 0x1007 0x400123 0x1000 all_rights all_rights refl refl refl refl refl refl

pub returns-clause-not_mapped : goal.returns-clause-not_mapped
returns-clause-not_mapped c = page_walk_beside

pub returns-clause-reached : goal.returns-clause-reached
returns-clause-reached c = ap reached page_visits

pub returns-clause-found : goal.returns-clause-found
returns-clause-found c = ap found page_visits

pub returns-clause-faultless : goal.returns-clause-faultless
returns-clause-faultless c = page_faultless
