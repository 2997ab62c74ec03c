use Rattle.std.proofs.Common.{ap}
use Rattle.vs_walk.specs.Traversal.{reached}
use Rattle.vs_walk.proofs.ExamplesOfTables as tables
use Rattle.vs_walk.proofs.examples.faulty_dumps.Goals as goal

pub returns-clause-reserved_bit : goal.returns-clause-reserved_bit
returns-clause-reserved_bit c = tables.reserved_bit

pub returns-clause-reserved_walk : goal.returns-clause-reserved_walk
returns-clause-reserved_walk c = tables.reserved_walk

pub returns-clause-other_page : goal.returns-clause-other_page
returns-clause-other_page c = tables.other_page

pub returns-clause-other_page_walk : goal.returns-clause-other_page_walk
returns-clause-other_page_walk c = tables.other_page_walk

pub returns-clause-shared_frame : goal.returns-clause-shared_frame
returns-clause-shared_frame c = tables.shared_frame

pub returns-clause-missing_frame : goal.returns-clause-missing_frame
returns-clause-missing_frame c = tables.missing_frame

pub returns-clause-missing_walk : goal.returns-clause-missing_walk
returns-clause-missing_walk c = tables.missing_walk

pub returns-clause-stray_frame : goal.returns-clause-stray_frame
returns-clause-stray_frame c = tables.stray_frame

pub returns-clause-stray_reached : goal.returns-clause-stray_reached
returns-clause-stray_reached c = ap reached tables.stray_visits

pub returns-clause-missing_root : goal.returns-clause-missing_root
returns-clause-missing_root c = tables.missing_root
