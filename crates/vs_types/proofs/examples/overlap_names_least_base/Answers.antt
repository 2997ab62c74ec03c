use Rattle.vs_types.proofs.Computing.{at_both, answers_compute, tables_compute}
use Rattle.vs_types.specs.Examples.{small_then_large}
use Rattle.vs_types.specs.declared.addresses.depth.Depth.TheVariants.{Four, Five}
use Rattle.vs_types.proofs.examples.overlap_names_least_base.Goals as goal

pub returns-clause-answers : goal.returns-clause-answers
returns-clause-answers c = at_both _
    (answers_compute Four 4096 small_then_large)
    (answers_compute Five 4096 small_then_large)

pub returns-clause-tables : goal.returns-clause-tables
returns-clause-tables c = tables_compute Four 4096 small_then_large
