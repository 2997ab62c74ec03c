use Rattle.vs_types.proofs.Computing.{at_both, answers_compute, tables_compute}
use Rattle.std.specs.Prelude.{take}
use Rattle.vs_types.specs.Examples.{small_replaced}
use Rattle.vs_types.specs.declared.addresses.depth.Depth.TheVariants.{Four, Five}
use Rattle.vs_types.proofs.examples.unmap_frees_tables.Goals as goal

pub returns-clause-answers : goal.returns-clause-answers
returns-clause-answers c = at_both _
    (answers_compute Four 4096 small_replaced)
    (answers_compute Five 4096 small_replaced)

pub returns-clause-with_small : goal.returns-clause-with_small
returns-clause-with_small c = tables_compute Four 4096 (take 1 small_replaced)

pub returns-clause-with_none : goal.returns-clause-with_none
returns-clause-with_none c = tables_compute Four 4096 (take 2 small_replaced)

pub returns-clause-with_large : goal.returns-clause-with_large
returns-clause-with_large c = tables_compute Four 4096 small_replaced
