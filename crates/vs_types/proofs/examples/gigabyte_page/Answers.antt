use Rattle.vs_types.proofs.Computing.{at_both, answers_compute, tables_compute, look_computes}
use Rattle.vs_types.specs.Examples.{one_gigabyte}
use Rattle.vs_types.specs.declared.addresses.depth.Depth.TheVariants.{Four, Five}
use Rattle.vs_types.proofs.examples.gigabyte_page.Goals as goal

pub returns-clause-answers : goal.returns-clause-answers
returns-clause-answers c = at_both _
    (answers_compute Four 4096 one_gigabyte)
    (answers_compute Five 4096 one_gigabyte)

pub returns-clause-tables : goal.returns-clause-tables
returns-clause-tables c = tables_compute Four 4096 one_gigabyte

pub returns-clause-inner_address : goal.returns-clause-inner_address
returns-clause-inner_address c = at_both _
    (look_computes Four 4096 one_gigabyte 0x40001234)
    (look_computes Five 4096 one_gigabyte 0x40001234)
